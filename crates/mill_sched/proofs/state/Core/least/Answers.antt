use Rattle.std.proofs.Common.{◌≡◌, ◌≤◌, subst}
use Rattle.mill_sched.specs.States.{State, work_of}
use Rattle.mill_sched.specs.Laws.{Fits, IsSettled, least_failure}
use Rattle.mill_sched.proofs.Leasts.{never_under, settled_least}
use Rattle.mill_sched.proofs.state.Core.least.Goals as goal

pub returns-clause-over : goal.returns-clause-over
returns-clause-over c = subst (λ (s : State). least_failure (work_of s) ≤ c.self.inside.least) c.self.view_is (never_under _ c.self.invariant)

pub returns-clause-settled : goal.returns-clause-settled
returns-clause-settled c = subst (λ (s : State). Fits (work_of s) → IsSettled s → c.self.inside.least ≡ least_failure (work_of s)) c.self.view_is (settled_least _ c.self.invariant)
