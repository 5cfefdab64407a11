-- How many of three signs' sectors hold a direction: tests of signs alone.
use Rattle.std.specs.Prelude.{◌≡◌, ℕ, ◌+◌, Bool, true, false, not, ◌&&◌, ◌||◌, cond}
use Rattle.std.proofs.Common.{refl}

abbrev pub number : Bool → ℕ
number b = cond b 1 0

-- the middle of a part of less than half a turn
pub count_less : (a b c : Bool) → (a ≡ false → b ≡ true → c ≡ false → ⊥) → (a ≡ true → b ≡ false → c ≡ true → ⊥)
    → number (a && not c) ≡ number (a && not b) + number (b && not c)
count_less false false false f g = refl
count_less false false true f g = refl
count_less false true false f g = absurd (f refl refl refl)
count_less false true true f g = refl
count_less true false false f g = refl
count_less true false true f g = absurd (g refl refl refl)
count_less true true false f g = refl
count_less true true true f g = refl

-- of a part of more, whose halves are less
pub count_more : (a b c : Bool) → (a ≡ false → b ≡ false → c ≡ false → ⊥) → (a ≡ true → b ≡ true → c ≡ true → ⊥)
    → number (not (c && not a)) ≡ number (a && not b) + number (b && not c)
count_more false false false f g = absurd (f refl refl refl)
count_more false false true f g = refl
count_more false true false f g = refl
count_more false true true f g = refl
count_more true false false f g = refl
count_more true false true f g = refl
count_more true true false f g = refl
count_more true true true f g = absurd (g refl refl refl)

-- whose second half is more
pub count_second : (a b c : Bool) → (a ≡ false → b ≡ true → c ≡ true → ⊥) → (a ≡ true → b ≡ false → c ≡ false → ⊥)
    → number (not (c && not a)) ≡ number (a && not b) + number (not (c && not b))
count_second false false false f g = refl
count_second false false true f g = refl
count_second false true false f g = refl
count_second false true true f g = absurd (f refl refl refl)
count_second true false false f g = absurd (g refl refl refl)
count_second true false true f g = refl
count_second true true false f g = refl
count_second true true true f g = refl

-- whose first half is more
pub count_first : (a b c : Bool) → (a ≡ false → b ≡ false → c ≡ true → ⊥) → (a ≡ true → b ≡ true → c ≡ false → ⊥)
    → number (not (c && not a)) ≡ number (not (b && not a)) + number (b && not c)
count_first false false false f g = refl
count_first false false true f g = absurd (f refl refl refl)
count_first false true false f g = refl
count_first false true true f g = refl
count_first true false false f g = refl
count_first true false true f g = refl
count_first true true false f g = absurd (g refl refl refl)
count_first true true true f g = refl

-- of half a turn, whose halves are less: where the direction lies behind its start by less than half a turn, by more, or on one line with it
pub half_up : (a c b la sa : Bool) → a ≡ true → c ≡ false → number (a || (la && sa)) ≡ number (a && not b) + number (b && not c)
half_up true true b la sa p q = cc
half_up true false true la sa p q = refl
half_up true false false la sa p q = refl
half_up false c b la sa p q = cc

pub half_low : (a c b la sa : Bool) → a ≡ false → la ≡ false → c ≡ true → number (a || (la && sa)) ≡ number (a && not b) + number (b && not c)
half_low true c b la sa p q r = cc
half_low false true true true sa p q r = cc
half_low false true true false sa p q r = refl
half_low false true false true sa p q r = cc
half_low false true false false sa p q r = refl
half_low false false b la sa p q r = cc

pub half_none : (a c b la sa : Bool) → a ≡ false → la ≡ true → c ≡ false → b ≡ sa → number (a || (la && sa)) ≡ number (a && not b) + number (b && not c)
half_none true c b la sa p q r t = cc
half_none false true b la sa p q r t = cc
half_none false false true true true p q r t = refl
half_none false false true true false p q r t = cc
half_none false false true false sa p q r t = cc
half_none false false false true true p q r t = cc
half_none false false false true false p q r t = refl
half_none false false false false sa p q r t = cc

-- of a whole turn, whose halves are half a turn each, or one of them is more
pub whole_up : (a b la sa lb sb : Bool) → a ≡ true → b ≡ false → lb ≡ false → 1 ≡ number (a || (la && sa)) + number (b || (lb && sb))
whole_up true true la sa lb sb p q r = cc
whole_up true false true true true sb p q r = cc
whole_up true false true true false sb p q r = refl
whole_up true false true false true sb p q r = cc
whole_up true false true false false sb p q r = refl
whole_up true false false true true sb p q r = cc
whole_up true false false true false sb p q r = refl
whole_up true false false false true sb p q r = cc
whole_up true false false false false sb p q r = refl
whole_up false b la sa lb sb p q r = cc

pub whole_low : (a b la sa lb sb : Bool) → a ≡ false → la ≡ false → b ≡ true → 1 ≡ number (a || (la && sa)) + number (b || (lb && sb))
whole_low true b la sa lb sb p q r = cc
whole_low false true true sa lb sb p q r = cc
whole_low false true false sa lb sb p q r = refl
whole_low false false la sa lb sb p q r = cc

pub whole_none : (a b la lb sa sb : Bool) → a ≡ false → la ≡ true → b ≡ false → (lb && sb) ≡ not sa → 1 ≡ number (a || (la && sa)) + number (b || (lb && sb))
whole_none true b la lb sa sb p q r t = cc
whole_none false true la lb sa sb p q r t = cc
whole_none false false true true true true p q r t = cc
whole_none false false true true true false p q r t = refl
whole_none false false true true false true p q r t = refl
whole_none false false true true false false p q r t = cc
whole_none false false true false true sb p q r t = refl
whole_none false false true false false sb p q r t = cc
whole_none false false false lb sa sb p q r t = cc

pub whole_second : (a b c : Bool) → c ≡ a → 1 ≡ number (a && not b) + number (not (c && not b))
whole_second true true true p = refl
whole_second true true false p = cc
whole_second true false true p = refl
whole_second true false false p = cc
whole_second false true true p = cc
whole_second false true false p = refl
whole_second false false true p = cc
whole_second false false false p = refl

pub whole_first : (a b c : Bool) → c ≡ a → 1 ≡ number (not (b && not a)) + number (b && not c)
whole_first true true true p = refl
whole_first true true false p = cc
whole_first true false c p = refl
whole_first false true true p = cc
whole_first false true false p = refl
whole_first false false c p = refl

-- of more than half a turn, whose second half is half a turn
pub second_up : (a b c lb sb : Bool) → b ≡ true → c ≡ false → number (not (c && not a)) ≡ number (a && not b) + number (b || (lb && sb))
second_up true true true lb sb p q = cc
second_up true true false lb sb p q = refl
second_up true false c lb sb p q = cc
second_up false true true lb sb p q = cc
second_up false true false lb sb p q = refl
second_up false false c lb sb p q = cc

pub second_low : (a b c lb sb : Bool) → b ≡ false → lb ≡ false → c ≡ true → number (not (c && not a)) ≡ number (a && not b) + number (b || (lb && sb))
second_low true true c lb sb p q r = cc
second_low true false true true sb p q r = cc
second_low true false true false sb p q r = refl
second_low true false false lb sb p q r = cc
second_low false true c lb sb p q r = cc
second_low false false true true sb p q r = cc
second_low false false true false sb p q r = refl
second_low false false false lb sb p q r = cc

pub second_none : (a b c lb sb : Bool) → b ≡ false → lb ≡ true → c ≡ false → sb ≡ not a → number (not (c && not a)) ≡ number (a && not b) + number (b || (lb && sb))
second_none true true c lb sb p q r t = cc
second_none true false true lb sb p q r t = cc
second_none true false false true true p q r t = cc
second_none true false false true false p q r t = refl
second_none true false false false sb p q r t = cc
second_none false true c lb sb p q r t = cc
second_none false false true lb sb p q r t = cc
second_none false false false true true p q r t = refl
second_none false false false true false p q r t = cc
second_none false false false false sb p q r t = cc

-- whose first half is half a turn
pub first_up : (a b c la sa : Bool) → a ≡ true → b ≡ false → number (not (c && not a)) ≡ number (a || (la && sa)) + number (b && not c)
first_up true true c la sa p q = cc
first_up true false true la sa p q = refl
first_up true false false la sa p q = refl
first_up false b c la sa p q = cc

pub first_low : (a b c la sa : Bool) → a ≡ false → la ≡ false → b ≡ true → number (not (c && not a)) ≡ number (a || (la && sa)) + number (b && not c)
first_low true b c la sa p q r = cc
first_low false true true true sa p q r = cc
first_low false true true false sa p q r = refl
first_low false true false true sa p q r = cc
first_low false true false false sa p q r = refl
first_low false false c la sa p q r = cc

pub first_none : (a b c la sa : Bool) → a ≡ false → la ≡ true → b ≡ false → sa ≡ not c → number (not (c && not a)) ≡ number (a || (la && sa)) + number (b && not c)
first_none true b c la sa p q r t = cc
first_none false true c la sa p q r t = cc
first_none false false true true true p q r t = cc
first_none false false true true false p q r t = refl
first_none false false true false sa p q r t = cc
first_none false false false true true p q r t = refl
first_none false false false true false p q r t = cc
first_none false false false false sa p q r t = cc
