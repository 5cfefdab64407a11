use Rattle.std.proofs.Common.{◌≡◌, ◌↔◌, ◌≤◌, ◌∙◌, true, refl, subst, sym, w32}
use Rattle.std.specs.Prelude.{nat_abs}
use lib.IntN.{ℤ}
use Rattle.mill_base.proofs.Machine.{kept}
use Rattle.mill_sweep.specs.Apart.{LiesBeside}
use Rattle.mill_sweep.proofs.Placing.{radius_small}
use Rattle.mill_sweep.proofs.beside.is_beside_box.Goals as goal

pub returns : goal.returns
returns c =
    let small : nat_abs c.radius.result ≤ 10000 = subst (λ (r : ℤ). nat_abs r ≤ 10000) (sym c.radius.ensures) (radius_small c.args.cutter c.requires) in
    subst (λ (r : ℤ). (c.lies_beside.result ≡ true) ↔ LiesBeside r c.args.step.now.from c.args.step.now.to c.args.tri.now)
    (kept w32 c.radius.result 10000 small refl ∙ c.radius.ensures) c.lies_beside.ensures
