-- Digits one after another, whose number may wrap where they are more than 18.
use Rattle.std.proofs.Common.{◌≡◌, ℕ, ◌+◌, ◌-◌, ◌*◌, ◌%◌, ◌<◌, ◌≤◌, ◌^◌, List, length, get_or, drop, arith, Bool, true, false, cond, refl, ◌∙◌}
use Rattle.std.proofs.Math.Nat.{mod-eq_of_lt}
use Rattle.std.specs.Char.{digit_value}
use Rattle.mill_words.specs.Words.{Line}
use Rattle.mill_words.specs.Lines.{opened_at, with_digit}
use Rattle.mill_words.specs.declared.marks.Region.TheVariants.{Outside}
use Rattle.mill_words.specs.declared.open_word.OpenWord.{OpenWord}
use Rattle.mill_words.specs.declared.stage.Stage.TheVariants.{InWord}
use Rattle.mill_words.specs.inner.Places.{rest_of, plain_word, DigitsTo}
use Rattle.mill_words.proofs.Numbers.{below, one_more}
use Rattle.mill_words.proofs.Places.{at-place, sign-at, point-at}
use Rattle.mill_words.proofs.Spelled.{digit-read}

-- a digit at a place goes on with the number of the word
digit-at : (w : OpenWord) (l : Line) (bytes : List ℕ) (p : ℕ) → p < length bytes → digit_value (get_or bytes p 0) < 10 → w.digits < 18
    → rest_of Outside (InWord w) l bytes p ≡ rest_of Outside (InWord (with_digit w (get_or bytes p 0))) l bytes (p + 1)
digit-at w l bytes p lt digit few = at-place (InWord w) l bytes p lt ∙ digit-read w l p (get_or bytes p 0) (drop (p + 1) bytes) digit few

-- no digit is read yet
pub no-digit : (bytes : List ℕ) (from front : ℕ) → DigitsTo bytes from from front front
no-digit bytes from front = record {
  bound = λ n before e low few. let same : before + n ≡ before = omega (arith, e) in rw same low;
  whole = λ n before letter place neg l e low few. let same : before + n ≡ before = omega (arith, e) in rw same refl;
  part = λ n before letter place neg l e low few.
      let same : before + n ≡ before = omega (arith, e) in
      let none : n ≡ 0 = omega (arith, e) in
      rw (same, none) refl;
}

-- a number of at most 17 digits doesn't wrap with one more
no-wrap : (k value d next : ℕ) → k ≤ 17 → value < 10 ^ k → d < 10 → next ≡ (value * 10 % 2 ^ 64 + d) % 2 ^ 64 → next ≡ 10 * value + d
no-wrap k value d next few low digit e =
    let small : value < 10 ^ 17 = below k 17 value few low in
    let first : value * 10 % 2 ^ 64 ≡ value * 10 = mod-eq_of_lt (omega (arith, small)) in
    let all : (value * 10 + d) % 2 ^ 64 ≡ value * 10 + d = mod-eq_of_lt (omega (arith, small, digit)) in
    let sum : value * 10 + d ≡ 10 * value + d = omega arith in
    e ∙ rw first (all ∙ sum)

-- one digit more is read
pub one-more-digit : (bytes : List ℕ) (from end front value d next : ℕ) → from ≤ end → end < length bytes → d ≡ digit_value (get_or bytes end 0) → d < 10
    → next ≡ (value * 10 % 2 ^ 64 + d) % 2 ^ 64 → DigitsTo bytes from end front value → DigitsTo bytes from (end + 1) front next
one-more-digit bytes from end front value d next forward lt is digit wraps so_far =
    let n : ℕ = end - from in
    let here : end ≡ from + (end - from) = omega (arith, forward) in
    let small : digit_value (get_or bytes end 0) < 10 = rw (← is) digit in
    let low_here : (before : ℕ) → front < 10 ^ before → before + (end - from) ≤ 17 → value < 10 ^ (before + (end - from))
    = λ before low few. so_far.bound (end - from) before here low (omega (arith, few)) in
    let adds : (before : ℕ) → front < 10 ^ before → before + (end - from) ≤ 17 → next ≡ 10 * value + d
    = λ before low few. no-wrap (before + (end - from)) value d next few (low_here before low few) digit wraps in
    record {
      bound = λ m before e low few.
          let count : before + m ≡ before + (end - from) + 1 = omega (arith, e, forward) in
          let room : before + (end - from) ≤ 17 = omega (arith, count, few) in
          rw (count, adds before low room) (one_more (before + (end - from)) value d (low_here before low room) digit);
      whole = λ m before letter place neg l e low few.
          let count : before + m ≡ before + (end - from) + 1 = omega (arith, e, forward) in
          let room : before + (end - from) ≤ 17 = omega (arith, count, few) in
          so_far.whole (end - from) before letter place neg l here low (omega (arith, room))
          ∙ digit-at (plain_word letter place neg value 0 (before + (end - from)) false) l bytes end lt small (omega (arith, room))
          ∙ rw (count, adds before low room, is) refl;
      part = λ m before letter place neg l e low few.
          let count : before + m ≡ before + (end - from) + 1 = omega (arith, e, forward) in
          let room : before + (end - from) ≤ 17 = omega (arith, count, few) in
          let more : m ≡ end - from + 1 = omega (arith, e, forward) in
          so_far.part (end - from) before letter place neg l here low (omega (arith, room))
          ∙ digit-at (plain_word letter place neg value (end - from) (before + (end - from)) true) l bytes end lt small (omega (arith, room))
          ∙ rw (count, adds before low room, is, more) refl;
    }

-- the digits of a number from its first one on
pub first-digits : (bytes : List ℕ) (from end value n letter place : ℕ) (neg : Bool) (l : Line) → DigitsTo bytes from end 0 value → end ≡ from + n → n ≤ 18
    → rest_of Outside (InWord (plain_word letter place neg 0 0 0 false)) l bytes from ≡ rest_of Outside (InWord (plain_word letter place neg value 0 n false)) l bytes end
first-digits bytes from end value n letter place neg l digits e few =
    let none : 0 + n ≡ n = omega arith in
    rw none at (digits.whole n 0 letter place neg l e (omega arith) (omega (arith, few)))

pub first-below : (bytes : List ℕ) (from end value n : ℕ) → DigitsTo bytes from end 0 value → end ≡ from + n → n ≤ 18 → value < 10 ^ n
first-below bytes from end value n digits e few =
    let none : 0 + n ≡ n = omega arith in
    rw none at (digits.bound n 0 e (omega arith) (omega (arith, few)))

-- a sign or none, digits, a point, and so many digits behind it
pub decimal-read : (bytes : List ℕ) (from sign point value mant count scale letter place : ℕ) (neg : Bool) (l : Line)
    → sign ≡ cond neg 1 0 → (neg ≡ true → from < length bytes) → (neg ≡ true → get_or bytes from 0 ≡ 45)
    → DigitsTo bytes (from + sign) point 0 value → from + sign ≤ point → point - (from + sign) ≤ 15 → point < length bytes → get_or bytes point 0 ≡ 46
    → DigitsTo bytes (point + 1) (point + 1 + count) value mant → count ≤ 3 → scale ≡ count
    → rest_of Outside (InWord (opened_at letter place)) l bytes from
    ≡ rest_of Outside (InWord (plain_word letter place neg mant scale (point - (from + sign) + count) true)) l bytes (point + 1 + count)
decimal-read bytes from sign point value mant count scale letter place neg l sign_is within byte digits forward few lt dot more small scale_is =
    let n : point ≡ from + sign + (point - (from + sign)) = omega (arith, forward) in
    let low : value < 10 ^ (point - (from + sign)) = first-below bytes (from + sign) point value (point - (from + sign)) digits n (omega (arith, few)) in
    let end : point + 1 + count ≡ point + 1 + count = refl in
    let signed : rest_of Outside (InWord (opened_at letter place)) l bytes from ≡ rest_of Outside (InWord (plain_word letter place neg 0 0 0 false)) l bytes (from + sign)
    = rw sign_is (sign-at neg bytes from letter place l within byte) in
    rw scale_is (
    signed
    ∙ first-digits bytes (from + sign) point value (point - (from + sign)) letter place neg l digits n (omega (arith, few))
    ∙ point-at bytes point letter place neg value (point - (from + sign)) l lt dot
    ∙ more.part count (point - (from + sign)) letter place neg l end low (omega (arith, few, small)))

-- they are at most 18 digits
pub decimal-below : (bytes : List ℕ) (first point value mant count : ℕ) → DigitsTo bytes first point 0 value → first ≤ point → point - first ≤ 15
    → DigitsTo bytes (point + 1) (point + 1 + count) value mant → count ≤ 3 → mant < 10 ^ 18
decimal-below bytes first point value mant count digits forward few more small =
    let n : point ≡ first + (point - first) = omega (arith, forward) in
    let low : value < 10 ^ (point - first) = first-below bytes first point value (point - first) digits n (omega (arith, few)) in
    let end : point + 1 + count ≡ point + 1 + count = refl in
    below (point - first + count) 18 mant (omega (arith, few, small)) (more.bound count (point - first) end low (omega (arith, few, small)))
