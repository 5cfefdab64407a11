use Rattle.std.proofs.Common.{subst}
use Rattle.std.specs.Prelude.{MatchOption}
use Rattle.mill_base.specs.declared.motion.Move.{Move}
use Rattle.mill_base.specs.declared.cutter.Cutter.{Cutter}
use Rattle.mill_sweep.specs.Passing.{FailsAt, IsBlocked, Passes}
use Rattle.mill_sweep.proofs.halving.first_of_tip.Goals as goal

pub returns : goal.returns
returns c =
    subst
    (λ (m : Move). MatchOption c.first_near.result (Passes c.args.cutter m c.args.tri.now) (λ leaf. FailsAt c.args.cutter m c.args.tri.now leaf × IsBlocked c.args.cutter m c.args.tri.now leaf))
    c.prepare.ensures.step
    (subst
    (λ (t : Cutter). MatchOption c.first_near.result (Passes t c.prepare.result.step c.args.tri.now) (λ leaf. FailsAt t c.prepare.result.step c.args.tri.now leaf × IsBlocked t c.prepare.result.step c.args.tri.now leaf))
    c.prepare.ensures.cutter c.first_near.ensures)
