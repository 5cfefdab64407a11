use Rattle.std.proofs.Common.{◌≤◌, sym, subst}
use Rattle.mill_sched.specs.States.{State}
use Rattle.mill_sched.specs.Laws.{SameGiven}
use Rattle.mill_sched.proofs.Able.{able, idle}
use Rattle.mill_sched.proofs.Laws.{steady_step}
use Rattle.mill_sched.proofs.state.Core.step.Goals as goal

pub returns-clause-able : goal.returns-clause-able
returns-clause-able c = able c.args.self.now c.args.event _ c.act.ensures.outcome

pub returns-clause-idle : goal.returns-clause-idle
returns-clause-idle c = idle c.args.self.now _ c.args.event _ c.act.ensures.state c.act.ensures.outcome

pub returns-clause-same : goal.returns-clause-same
returns-clause-same c = let t = steady_step 0 c.args.self.now c.args.event in subst (λ (s : State). SameGiven c.args.self.now s) (sym c.act.ensures.state) t.same

pub returns-clause-falls : goal.returns-clause-falls
returns-clause-falls c = let t = steady_step 0 c.args.self.now c.args.event in subst (λ (s : State). s.least ≤ c.args.self.now.least) (sym c.act.ensures.state) t.falls
