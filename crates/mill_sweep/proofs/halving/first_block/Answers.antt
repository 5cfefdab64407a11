use Rattle.std.proofs.Common.{subst}
use Rattle.std.specs.Prelude.{MatchOption}
use Rattle.mill_base.specs.declared.motion.Move.{Move}
use Rattle.mill_base.specs.declared.cutter.Cutter.{Cutter}
use Rattle.mill_sweep.specs.Passing.{FailsAt, IsBlocked, Passes}
use Rattle.mill_sweep.proofs.halving.first_block.Goals as goal

pub returns : goal.returns
returns c =
    let cutter = c.args.solid.cutter in
    subst
    (λ (m : Move). MatchOption c.first_of_tip.result (Passes cutter m c.args.tri.now) (λ leaf. FailsAt cutter m c.args.tri.now leaf × IsBlocked cutter m c.args.tri.now leaf))
    c.lift.ensures.value
    (subst
    (λ (t : Cutter). MatchOption c.first_of_tip.result (Passes t c.lift.result c.args.tri.now) (λ leaf. FailsAt t c.lift.result c.args.tri.now leaf × IsBlocked t c.lift.result c.args.tri.now leaf))
    c.cutter.ensures.value c.first_of_tip.ensures)
