use Rattle.std.proofs.Common.{subst}
use Rattle.std.specs.Prelude.{MatchOption}
use Rattle.mill_sweep.specs.Passing.{FailsAt, IsBlocked, Passes}
use Rattle.mill_sweep.specs.Sweeps.{Swept}
use Rattle.mill_sweep.proofs.sweep.Sweep.first_block.Goals as goal

pub returns : goal.returns
returns c =
    subst
    (λ (s : Swept). MatchOption c.first_on.result (Passes s.cutter s.move c.args.tri.now) (λ leaf. FailsAt s.cutter s.move c.args.tri.now leaf × IsBlocked s.cutter s.move c.args.tri.now leaf))
    c.self.view_is c.first_on.ensures
