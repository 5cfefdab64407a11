use Rattle.std.proofs.Common.{◌∙◌, inl, inr, refl, rules, subst, sym, w32, FitsSigned}
use lib.IntN.{ℤ}
use lib.Signed.{◌<ℤ◌, ◌≤ℤ◌}
use Rattle.std.proofs.lemmas.Bool.{false≢true}
use Rattle.std.proofs.lemmas.Int.{to_z-of_z}
use Rattle.mill_base.specs.Points.{highest}
use Rattle.mill_sweep.proofs.Boxes.{box_fails}
use Rattle.mill_sweep.proofs.halving.first_by_box.Goals as goal

pub returns-then-is_no_higher : goal.returns-then-is_no_higher
returns-then-is_no_higher c =
    let fits : FitsSigned w32 c.lower_end.result = search rules in
    let low = rw (to_z-of_z w32 c.lower_end.result fits) at (c.is_no_higher.ensures.yes c.if-is_no_higher.true) in
    inl (subst (λ (z : ℤ). highest c.args.tri.now ≤ℤ z) c.lower_end.ensures low)

pub returns-then-is_beside_box : goal.returns-then-is_beside_box
returns-then-is_beside_box c = inr (c.is_beside_box.ensures.0 c.if-is_beside_box.true)

pub returns : goal.returns
returns c =
    let fits : FitsSigned w32 c.lower_end.result = search rules in
    let over = rw (to_z-of_z w32 c.lower_end.result fits) at (c.is_no_higher.ensures.no c.if-is_no_higher.false) in
    box_fails c.args.cutter c.args.step.now c.args.tri.now (subst (λ (z : ℤ). z <ℤ highest c.args.tri.now) c.lower_end.ensures over)
    (λ beside. false≢true (sym c.if-is_beside_box.false ∙ c.is_beside_box.ensures.1 beside)) (record { d = 0; k = 0 }) (record { d = refl; k = refl })
