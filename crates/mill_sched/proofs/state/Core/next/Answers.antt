use Rattle.std.proofs.Common.{◌<◌, length, subst}
use Rattle.mill_sched.specs.States.{State, piece_at, work_of}
use Rattle.mill_sched.specs.Laws.{Fits, IsOnTurn}
use Rattle.mill_sched.proofs.Leasts.{on_turn}
use Rattle.mill_sched.proofs.state.Core.next.Goals as goal

pub returns-clause-turn : goal.returns-clause-turn
returns-clause-turn c = λ fits. subst (λ (s : State). Fits (work_of s) → c.args.number < length s.pieces → IsOnTurn (piece_at s c.args.number)) c.self.view_is (on_turn _ c.args.number c.self.invariant) fits c.requires
