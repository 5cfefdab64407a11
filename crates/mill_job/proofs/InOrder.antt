-- The facts that the tests of a job's levels tell.
use Rattle.std.proofs.Common.{◌≡◌, refl, ◌<◌, Bool, true, false, ◌&&◌, List, [], ◌∷◌, length, All, Option, Some, None, is_some, Err, arith}
use Rattle.std.proofs.lemmas.Bool.{leb-true, lt-leb}
use Rattle.std.proofs.lemmas.Int.{ints}
use Rattle.std.proofs.lemmas.List.Elements.{All-nil, All-cons, All-weaker}
use Rattle.std.proofs.lemmas.List.Kept.{AllPairs-cons}
use Rattle.std.specs.List.{AllPairs}
use Rattle.std.specs.Prelude.{ℤ, ◌<ℤ◌, int_lt, nat_le}
use Rattle.mill_base.specs.declared.unit.Unit.{Unit}
use Rattle.mill_job.specs.Tables.{all_coordinates, are_levels, checked, falls_from, is_falling, kind_fault, levels_of}
use Rattle.mill_job.specs.inner.Ranged.{AreInOrder}
use Rattle.mill_job.specs.declared.key.Key.TheVariants.{Levels}
use Rattle.mill_job.specs.declared.fault.JobFault.TheVariants.{Range}

both_true : (a b : Bool) → (a && b) ≡ true → (a ≡ true) × (b ≡ true)
both_true true b e = (refl, e)
both_true false b e = cc

-- b is under a
abbrev pub Falls : ℤ → ℤ → Type 0
Falls a b = b <ℤ a

falls-by : (z bound : ℤ) → int_lt z bound ≡ true → z <ℤ bound
falls-by z bound e = omega (e, arith, ints)

falls-on : (y z bound : ℤ) → z <ℤ bound → y <ℤ z → y <ℤ bound
falls-on y z bound h k = omega (h, k, arith, ints)

all_under : (bound : ℤ) (zs : List ℤ) → falls_from bound zs ≡ true → All (Falls bound) zs
all_under bound [] e = All-nil (Falls bound)
all_under bound (z ∷ zs) e =
    let parts = both_true (int_lt z bound) (falls_from z zs) e in
    let first = falls-by z bound parts.0 in
    All-cons (Falls bound) z zs first (All-weaker (Falls z) (Falls bound) (λ y under. falls-on y z bound first under) zs (all_under z zs parts.1))

pairs_from : (bound : ℤ) (zs : List ℤ) → falls_from bound zs ≡ true → AllPairs Falls zs
pairs_from bound [] e = λ i j d before there. absurd (omega arith)
pairs_from bound (z ∷ zs) e =
    let rest = (both_true (int_lt z bound) (falls_from z zs) e).1 in
    AllPairs-cons Falls z zs (all_under z zs rest) (pairs_from z zs rest)

pairs : (zs : List ℤ) → is_falling zs ≡ true → AllPairs Falls zs
pairs [] e = λ i j d before there. absurd (omega arith)
pairs (z ∷ zs) e = AllPairs-cons Falls z zs (all_under z zs e) (pairs_from z zs e)

in_order : (unit : Unit) (zs : List ℤ) (test : Bool) → are_levels unit zs ≡ test → kind_fault Levels (are_levels unit) (Some zs) ≡ None → AreInOrder zs
in_order unit zs false e none = let fails : kind_fault Levels (are_levels unit) (Some zs) ≡ Some (Range Levels) = rw e refl in cc
in_order unit zs true e none =
    let parts = both_true (nat_le (length zs) 64) (all_coordinates unit zs && is_falling zs) e in
    record { few = leb-true (length zs) 64 parts.0; falling = pairs zs (both_true (all_coordinates unit zs) (is_falling zs) parts.1).1 }

-- levels with which nothing is wrong are in order
pub are_in_order : (unit : Unit) (numbers : Option (List ℤ)) → kind_fault Levels (are_levels unit) numbers ≡ None → AreInOrder (levels_of numbers)
are_in_order unit None none = cc
are_in_order unit (Some zs) none = in_order unit zs (are_levels unit zs) refl none

-- more numbers than 64 are out of range
pub too_many : (unit : Unit) (numbers : Option (List ℤ)) → ((zs : List ℤ) → numbers ≡ Some zs → 64 < length zs) → is_some numbers ≡ true → Err (Range Levels) ≡ checked (kind_fault Levels (are_levels unit) numbers) (levels_of numbers)
too_many unit None many whole = cc
too_many unit (Some zs) many whole =
    let long : nat_le (length zs) 64 ≡ false = lt-leb _ _ (many zs refl) in
    rw long refl
