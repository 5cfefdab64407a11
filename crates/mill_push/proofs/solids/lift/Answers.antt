use Rattle.std.proofs.Common.{◌≡◌, refl, w32, to_z, of_z, arith}
use Rattle.std.proofs.lemmas.Int.{ints}
use lib.IntN.{ℤ, ◌+ℤ◌}
use Rattle.mill_base.proofs.SolidLemmas.{higher_once}
use Rattle.mill_base.specs.Numbers.{Within}
use Rattle.mill_base.specs.Solids.{IsLift}
use Rattle.mill_base.specs.declared.limits.TheConstants.{MAX_COORDINATE}
use Rattle.mill_push.proofs.Stored.{small, stored}
use Rattle.mill_push.proofs.solids.lift.Goals as goal

lift_stored : (lift : ℤ) → IsLift lift → to_z w32 (of_z w32 lift) ≡ lift
lift_stored lift h = let a = h.least in let b = h.within in small lift (omega (arith, ints))

sum_stored : (z lift : ℤ) → Within MAX_COORDINATE z → IsLift lift → to_z w32 (of_z w32 (z +ℤ lift)) ≡ z +ℤ lift
sum_stored z lift h k = let w = h.within in let a = k.least in let b = k.within in small (z +ℤ lift) (omega (arith, ints))

pub returns-clause-value : goal.returns-clause-value
returns-clause-value c =
    let at = stored c.args.fiber.at c.requires.at_ok in
    let z = stored c.args.fiber.z c.requires.z_ok in
    let lift = lift_stored c.lift.result c.lift.ensures.in_range in
    let sum = sum_stored c.args.fiber.z c.lift.result c.requires.z_ok c.lift.ensures.in_range in
    rw (at, z, lift, sum, c.lift.ensures.value, higher_once c.args.fiber.z c.args.solid.lift) refl
