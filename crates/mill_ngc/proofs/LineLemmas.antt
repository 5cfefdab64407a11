-- The first line of a text.
use Rattle.std.proofs.Common.{◌≡◌, ℕ, suc, ◌+◌, ◌-◌, ◌<◌, Bool, true, false, not, cond, eqb, List, [], ◌∷◌, length, take, drop, refl, ap, sym, ◌∙◌, arith, length-drop}
use Rattle.std.proofs.Math.Numerals.{one-add}
use Rattle.std.proofs.lemmas.List.{take_all}
use Rattle.std.specs.List.{prefix_len}
use Rattle.mill_ngc.specs.Programs.{put_first, lines_of}

-- how many bytes stand before the first line feed, or at all
abbrev pub before_end : List ℕ → ℕ
before_end text = prefix_len (λ b. not (eqb b 10)) text

-- `&text[i..]` is what stands behind the first i
pub behind : (text : List ℕ) (i : ℕ) → take (length text - i) (drop i text) ≡ drop i text
behind text i = take_all (length text - i) (drop i text) (omega (arith, length-drop i text))

take_more : (b n : ℕ) (text : List ℕ) → take (1 + n) (b ∷ text) ≡ b ∷ take n text
take_more b n text = ap (λ k. take k (b ∷ text)) (one-add n)

drop_more : (b n : ℕ) (text : List ℕ) → drop (1 + n + 1) (b ∷ text) ≡ drop (n + 1) text
drop_more b n text =
    let more : 1 + n + 1 ≡ suc (n + 1) = omega arith in
    ap (λ k. drop k (b ∷ text)) more

both : {line line' rest rest' : List ℕ} → line ≡ line' → rest ≡ rest' → line ∷ lines_of rest ≡ line' ∷ lines_of rest'
both {line} {line'} {rest} {rest'} e f = ap (λ l. l ∷ lines_of rest) e ∙ ap (λ r. line' ∷ lines_of r) f

-- the first line is the whole text, or stands before a line feed
record FirstLine (text : List ℕ) (n : ℕ) (lines : List (List ℕ)) : Type 0 where
  whole : n ≡ length text → lines ≡ text ∷ []
  first : n < length text → lines ≡ take n text ∷ lines_of (drop (n + 1) text)

-- one byte more in front, where t says whether it is a line feed
line_step : (t : Bool) (b n : ℕ) (text : List ℕ) → FirstLine text n (lines_of text) → FirstLine (b ∷ text) (cond (not t) (1 + n) 0) (cond t ([] ∷ lines_of text) (put_first b (lines_of text)))
line_step true b n text f = record { whole = λ h. absurd (omega arith); first = λ _. refl }
line_step false b n text f = record {
  whole = λ h. ap (put_first b) (f.whole (omega arith));
  first = λ h. ap (put_first b) (f.first (omega arith)) ∙ both (sym (take_more b n text)) (sym (drop_more b n text));
}

first_line : (text : List ℕ) → FirstLine text (before_end text) (lines_of text)
first_line [] = record { whole = λ _. refl; first = λ h. absurd (omega arith) }
first_line (b ∷ text) = line_step (eqb b 10) b (before_end text) text (first_line text)

-- a text without a line feed is its one line
pub lines_of-whole : (text : List ℕ) (n : ℕ) → n ≡ before_end text → n ≡ length text → lines_of text ≡ text ∷ []
lines_of-whole text n e all = (first_line text).whole (sym e ∙ all)

-- a text with a line feed is its first line, and the lines behind it
pub lines_of-first : (text : List ℕ) (n : ℕ) → n ≡ before_end text → n < length text → lines_of text ≡ take n text ∷ lines_of (drop (n + 1) text)
lines_of-first text n e some = (first_line text).first (rw (← e) some) ∙ both (ap (λ k. take k text) (sym e)) (ap (λ k. drop (k + 1) text) (sym e))
