use Rattle.std.proofs.Common.{◌≡◌, ◌↔◌, true, subst}
use lib.IntN.{ℤ}
use Rattle.mill_sweep.specs.Apart.{LiesBeside}
use Rattle.mill_sweep.proofs.Placing.{from_move}
use Rattle.mill_sweep.proofs.beside.is_beside_move.Goals as goal

pub returns : goal.returns
returns c =
    subst (λ (r : ℤ). (c.lies_beside.result ≡ true) ↔ LiesBeside r c.args.step.now.from c.args.step.now.to c.args.tri.now)
    (from_move c.args.cutter c.radius.result c.requires c.radius.ensures) c.lies_beside.ensures
