-- Fixtures under a cutter at the clear height.
use Rattle.std.proofs.Common.{◌≡◌, refl, Bool, true, false, ◌&&◌, List, [], ◌∷◌, All, arith}
use Rattle.std.proofs.lemmas.Int.{ints}
use Rattle.std.proofs.lemmas.List.Elements.{All-nil, All-cons}
use Rattle.std.specs.List.{list_all}
use Rattle.std.specs.Prelude.{ℤ, ◌+ℤ◌, ◌-ℤ◌, ◌≤ℤ◌, int_le}
use Rattle.mill_job.specs.Fixtures.{IsUnder, is_under}
use Rattle.mill_job.specs.declared.fixtures.Fixture.{Fixture}

same : (most clear low z : ℤ) (a b : Bool) → most ≡ clear -ℤ low → int_le z most ≡ a → int_le (z +ℤ low) clear ≡ b → a ≡ b
same most clear low z true true is e f = refl
same most clear low z false false is e f = refl
same most clear low z true false is e f = absurd (omega (arith, ints, is, e, f))
same most clear low z false true is e f = absurd (omega (arith, ints, is, e, f))

-- those that are at most this high are those that are passed over
pub all_low : (most clear low : ℤ) (fixtures : List Fixture) → most ≡ clear -ℤ low → list_all (λ fixture. int_le fixture.height most) fixtures ≡ list_all (is_under clear low) fixtures
all_low most clear low [] is = refl
all_low most clear low (fixture ∷ fixtures) is =
    rw (same most clear low fixture.height (int_le fixture.height most) (int_le (fixture.height +ℤ low) clear) is refl refl, all_low most clear low fixtures is) refl

both_true : (a b : Bool) → (a && b) ≡ true → (a ≡ true) × (b ≡ true)
both_true true b e = (refl, e)
both_true false b e = absurd (cc)

at_most : (a b : ℤ) → int_le a b ≡ true → a ≤ℤ b
at_most a b e = omega (e, arith, ints)

pub all_under : (clear low : ℤ) (fixtures : List Fixture) → list_all (is_under clear low) fixtures ≡ true → All (IsUnder clear low) fixtures
all_under clear low [] e = All-nil (IsUnder clear low)
all_under clear low (fixture ∷ fixtures) e =
    let parts = both_true (is_under clear low fixture) (list_all (is_under clear low) fixtures) e in
    All-cons (IsUnder clear low) fixture fixtures (record { under = at_most (fixture.height +ℤ low) clear parts.0 }) (all_under clear low fixtures parts.1)
