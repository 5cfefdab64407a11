-- Heights that are read one by one, each under the one before it.
use Rattle.std.proofs.Common.{◌≡◌, ◌∙◌, ap, sym, refl, ℕ, ◌+◌, ◌<◌, ◌≤◌, drop, get_or, Bool, true, false, ◌&&◌, List, [], ◌∷◌, ◌++◌, length, Option, Some, None, option_map, is_some, Ok, Err, arith}
use Rattle.std.proofs.lemmas.List.{append_assoc, append-nil}
use Rattle.std.proofs.lemmas.Bool.{le-leb}
use Rattle.std.proofs.lemmas.Int.{ints}
use Rattle.std.specs.Prelude.{ℤ, pos, ◌≤ℤ◌, ◌<ℤ◌, int_lt, nat_le}
use Rattle.toml.specs.declared.value.Value.{Value}
use Rattle.toml.specs.Data.{as_integer}
use Rattle.toml.specs.View.{view, items_view}
use Rattle.mill_base.specs.Units.{greatest_of}
use Rattle.mill_base.specs.declared.unit.Unit.{Unit}
use Rattle.mill_job.specs.Tables.{integers, with_rest, all_coordinates, are_levels, checked, falls_from, is_coordinate, is_falling, kind_fault, levels_of}
use Rattle.mill_job.specs.declared.key.Key.TheVariants.{Levels}
use Rattle.mill_job.specs.declared.fault.JobFault.TheVariants.{Range, WrongKind}
use Rattle.mill_job.proofs.Numbers.{next_number}

-- each number is a coordinate under the one before it, and the first under a bound
abbrev pub go_down : Unit → ℤ → List ℤ → Bool
go_down unit bound [] = true
go_down unit bound (z ∷ zs) = is_coordinate unit z && (int_lt z bound && go_down unit z zs)

-- no coordinate of the unit is as much as this
abbrev pub beyond : Unit → ℤ
beyond unit = pos (greatest_of unit + 1)

both : (a b c d : Bool) → ((a && b) && (c && d)) ≡ (a && (c && (b && d)))
both false b c d = refl
both true true c d = refl
both true false false d = refl
both true false true d = refl

go_down-both : (unit : Unit) (bound : ℤ) (zs : List ℤ) → (all_coordinates unit zs && falls_from bound zs) ≡ go_down unit bound zs
go_down-both unit bound [] = refl
go_down-both unit bound (z ∷ zs) =
    both (is_coordinate unit z) (all_coordinates unit zs) (int_lt z bound) (falls_from z zs) ∙ ap (λ (b : Bool). is_coordinate unit z && (int_lt z bound && b)) (go_down-both unit z zs)

coordinate-under : (unit : Unit) (z : ℤ) → is_coordinate unit z ≡ true → int_lt z (beyond unit) ≡ true
unfolding is_coordinate
coordinate-under unit z h = grind (arith, ints)

from_the_first : (unit : Unit) (z : ℤ) (zs : List ℤ) (b : Bool) → is_coordinate unit z ≡ b → ((b && all_coordinates unit zs) && falls_from z zs) ≡ (b && (int_lt z (beyond unit) && go_down unit z zs))
from_the_first unit z zs false e = refl
from_the_first unit z zs true e = rw (coordinate-under unit z e) (go_down-both unit z zs)

-- falling coordinates start anywhere
pub as_go_down : (unit : Unit) (zs : List ℤ) → (all_coordinates unit zs && is_falling zs) ≡ go_down unit (beyond unit) zs
as_go_down unit [] = refl
as_go_down unit (z ∷ zs) = from_the_first unit z zs (is_coordinate unit z) refl

-- the numbers read so far, before those that are left
abbrev pub behind : List ℤ → Option (List ℤ) → Option (List ℤ)
behind levels rest = option_map (λ zs. levels ++ zs) rest

-- of all numbers these levels were read, and whether the rest goes down from a bound decides whether all do
pub record IsRead (unit : Unit) (all rest : Option (List ℤ)) (levels : List ℤ) (bound : ℤ) : Type 0 where
  pub numbers : behind levels rest ≡ all
  pub falls : (zs : List ℤ) → go_down unit (beyond unit) (levels ++ zs) ≡ go_down unit bound zs

pub none_read : (unit : Unit) (all : Option (List ℤ)) → IsRead unit all all [] (beyond unit)
none_read unit None = record { numbers = refl; falls = λ zs. refl }
none_read unit (Some zs) = record { numbers = refl; falls = λ zs. refl }

-- the numbers that are left are that of the next value, if it is one, and those after it
pub at_next : (unit : Unit) (all : Option (List ℤ)) (vs : List Value) (i : ℕ) (v : Value) (number : Option ℤ) (levels : List ℤ) (bound : ℤ) → i < length vs → v ≡ get_or vs i v → number ≡ as_integer (view v)
    → IsRead unit all (integers (items_view (drop i vs))) levels bound → IsRead unit all (with_rest number (integers (items_view (drop (i + 1) vs)))) levels bound
at_next unit all vs i v number levels bound there here is read =
    let next : integers (items_view (drop i vs)) ≡ with_rest number (integers (items_view (drop (i + 1) vs))) = next_number vs i v there here ∙ ap (λ (n : Option ℤ). with_rest n (integers (items_view (drop (i + 1) vs)))) (sym is) in
    rw (← next) read

behind-one_more : (levels : List ℤ) (z : ℤ) (rest : Option (List ℤ)) → behind (levels ++ z ∷ []) rest ≡ behind levels (with_rest (Some z) rest)
behind-one_more levels z None = refl
behind-one_more levels z (Some zs) = ap Some (append_assoc levels (z ∷ []) zs)

-- a coordinate under the bound is read
pub one_read : (unit : Unit) (all rest : Option (List ℤ)) (levels : List ℤ) (bound z : ℤ) → IsRead unit all (with_rest (Some z) rest) levels bound → is_coordinate unit z ≡ true → int_lt z bound ≡ true
    → IsRead unit all rest (levels ++ z ∷ []) z
one_read unit all rest levels bound z h known under = record {
  numbers = behind-one_more levels z rest ∙ h.numbers;
  falls = λ zs.
      let next : go_down unit bound (z ∷ zs) ≡ go_down unit z zs = rw (known, under) refl in
      ap (go_down unit (beyond unit)) (append_assoc levels (z ∷ []) zs) ∙ h.falls (z ∷ zs) ∙ next;
}

and-false : (a b : Bool) → b ≡ false → (a && b) ≡ false
and-false true b e = e
and-false false b e = refl

-- a number that isn't under the bound
pub too_high : (known : Bool) (bound z : ℤ) → bound ≤ℤ z → (known && int_lt z bound) ≡ false
too_high known bound z high = and-false known (int_lt z bound) (grind (arith, ints))

-- a number under the bound
pub is_under : (bound z : ℤ) → z <ℤ bound → int_lt z bound ≡ true
is_under bound z low = grind (arith, ints)

fails_first : (a b c : Bool) → (a && b) ≡ false → (a && (b && c)) ≡ false
fails_first false b c e = refl
fails_first true false c e = refl
fails_first true true c e = cc

-- any other number is out of range
pub out_of_range : (unit : Unit) (all rest : Option (List ℤ)) (levels : List ℤ) (bound z : ℤ) → is_some all ≡ true → IsRead unit all (with_rest (Some z) rest) levels bound
    → (is_coordinate unit z && int_lt z bound) ≡ false → Err (Range Levels) ≡ checked (kind_fault Levels (are_levels unit) all) (levels_of all)
out_of_range unit all None levels bound z whole h other =
    let none : all ≡ None = sym h.numbers in
    absurd (cc)
out_of_range unit all (Some zs) levels bound z whole h other =
    let numbers = levels ++ z ∷ zs in
    let next : go_down unit bound (z ∷ zs) ≡ false = fails_first (is_coordinate unit z) (int_lt z bound) (go_down unit z zs) other in
    let fails : are_levels unit numbers ≡ false = and-false (nat_le (length numbers) 64) (all_coordinates unit numbers && is_falling numbers) (as_go_down unit numbers ∙ h.falls (z ∷ zs) ∙ next) in
    rw (← h.numbers, fails) refl

-- a value that is no whole number is of a wrong kind
pub no_number : (unit : Unit) (all rest : Option (List ℤ)) (levels : List ℤ) (bound : ℤ) → IsRead unit all (with_rest None rest) levels bound
    → Err (WrongKind Levels) ≡ checked (kind_fault Levels (are_levels unit) all) (levels_of all)
no_number unit all rest levels bound h = rw (← h.numbers) refl

-- all are read: they are the levels
pub all_read : (unit : Unit) (all : Option (List ℤ)) (levels : List ℤ) (bound : ℤ) → IsRead unit all (Some []) levels bound → length levels ≤ 64 → Ok levels ≡ checked (kind_fault Levels (are_levels unit) all) (levels_of all)
all_read unit all levels bound h few =
    let same : all ≡ Some levels = sym h.numbers ∙ ap Some (append-nil levels) in
    let fits : nat_le (length levels) 64 ≡ true = le-leb (length levels) 64 few in
    let falls : (all_coordinates unit levels && is_falling levels) ≡ true = as_go_down unit levels ∙ ap (go_down unit (beyond unit)) (sym (append-nil levels)) ∙ h.falls [] in
    rw (same, fits, falls) refl
