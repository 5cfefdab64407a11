use Rattle.std.proofs.Common.{◌≡◌, ◌≤◌, subst, sym}
use Rattle.std.specs.Prelude.{All}
use Rattle.mill_sched.specs.States.{State, work_of}
use Rattle.mill_sched.specs.Steps.{outcomes_of}
use Rattle.mill_sched.specs.Laws.{DrawsEachOnce, Fits, IsOnTurn, IsSettled, SameGiven, least_failure}
use Rattle.mill_sched.proofs.Laws.{draws_each_once, run_end, steady_after}
use Rattle.mill_sched.proofs.Leasts.{all_on_turn, never_under, settled_least}
use Rattle.mill_sched.proofs.state.Core.run.Goals as goal

pub returns-clause-same : goal.returns-clause-same
returns-clause-same c =
    let ended = run_end c.args.self.now c.loop-event.self c.args.events.now c.loop-event.event-index c.loop-event-test.false c.loop-event.invariant in
    let steady = steady_after 0 c.args.self.now c.args.events.now in
    subst (λ (s : State). SameGiven c.args.self.now s) (sym ended) steady.same

pub returns-clause-drawn : goal.returns-clause-drawn
returns-clause-drawn c =
    let ended = run_end c.args.self.now c.loop-event.self c.args.events.now c.loop-event.event-index c.loop-event-test.false c.loop-event.invariant in
    subst (λ (s : State). DrawsEachOnce c.args.self.now s (outcomes_of c.args.self.now c.args.events.now)) (sym ended) (draws_each_once c.args.self.now c.args.events.now)

pub returns-clause-turns : goal.returns-clause-turns
returns-clause-turns c = subst (λ (s : State). Fits (work_of s) → All IsOnTurn s.pieces) c.self.view_is (all_on_turn _ c.self.invariant)

pub returns-clause-falls : goal.returns-clause-falls
returns-clause-falls c =
    let ended = run_end c.args.self.now c.loop-event.self c.args.events.now c.loop-event.event-index c.loop-event-test.false c.loop-event.invariant in
    let steady = steady_after 0 c.args.self.now c.args.events.now in
    subst (λ (s : State). s.least ≤ c.args.self.now.least) (sym ended) steady.falls

pub returns-clause-over : goal.returns-clause-over
returns-clause-over c = subst (λ (s : State). least_failure (work_of s) ≤ s.least) c.self.view_is (never_under _ c.self.invariant)

pub returns-clause-settled : goal.returns-clause-settled
returns-clause-settled c = subst (λ (s : State). Fits (work_of s) → IsSettled s → s.least ≡ least_failure (work_of s)) c.self.view_is (settled_least _ c.self.invariant)
