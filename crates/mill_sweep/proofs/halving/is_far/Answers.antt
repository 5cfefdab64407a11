use Rattle.std.proofs.Common.{refl, rules, arith, w32, FitsSigned}
use lib.IntN.{ℤ}
use lib.Signed.{◌≤ℤ◌}
use Rattle.std.proofs.lemmas.Int.{ints, to_z-of_z}
use Rattle.mill_base.proofs.Machine.{kept}
use Rattle.mill_sweep.proofs.ByKind.{beside_passes_all, low_passes_all}
use Rattle.mill_sweep.specs.Widths.{highest_tip}
use Rattle.mill_sweep.proofs.halving.is_far.Goals as goal

up : (a b c : ℤ) → a ≤ℤ b → b ≤ℤ c → a ≤ℤ c
up a b c p q = omega (arith, ints)

pub returns-then-is_no_higher : goal.returns-then-is_no_higher
returns-then-is_no_higher c = λ _.
    let fits : FitsSigned w32 c.min.result = search rules in
    let top = rw (to_z-of_z w32 c.min.result fits) at (c.is_no_higher.ensures.yes c.if-is_no_higher.true) in
    let from = rw (kept w32 c.args.step.now.from.z highest_tip c.requires.move_ok.from_ok.z_ok.within refl) at c.min.ensures.self_bound in
    let to = rw (kept w32 c.args.step.now.to.z highest_tip c.requires.move_ok.to_ok.z_ok.within refl) at c.min.ensures.other_bound in
    low_passes_all c.args.cutter c.args.step.now c.args.tri.now (up _ _ _ top from) (up _ _ _ top to)

pub returns : goal.returns
returns c = λ beside. beside_passes_all c.args.cutter c.args.step.now c.args.tri.now c.requires.cutter_ok c.requires.move_ok (c.is_beside_move.ensures.0 beside)
