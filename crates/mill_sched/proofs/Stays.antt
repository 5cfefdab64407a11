-- Each event leaves pieces and workers placed, and pieces on their turns, whatever else a state is.
use Rattle.std.proofs.Common.{◌≡◌, ◌≢◌, ℕ, ◌+◌, ◌<◌, ◌≤◌, false, ltb, length, set, refl, ap, arith, Option, Some, None, IfSome, length-set}
use Rattle.std.proofs.lemmas.Bool.Decides.{nat_tests}
use Rattle.std.specs.Prelude.{All}
use Rattle.mill_sched.specs.declared.event.Event.{Event}
use Rattle.mill_sched.specs.declared.event.Event.TheVariants.{Draw, Take, Look, Lower, Put}
use Rattle.mill_sched.specs.declared.piece.Piece.{Piece}
use Rattle.mill_sched.specs.declared.worker.Worker.{Worker}
use Rattle.mill_sched.specs.declared.worker.Worker.TheVariants.{Free, Drawn, Holding, Done}
use Rattle.mill_sched.specs.States.{State, no_task, piece_at, untouched, worker_at}
use Rattle.mill_sched.specs.Steps.{Step, actor_of, is_failure, is_stopped, looked, step_by, turned}
use Rattle.mill_sched.specs.Laws.{IsOnTurn, IsPlaced, number_of}
use Rattle.mill_sched.proofs.Members.{each_set}
use Rattle.mill_sched.proofs.Events.{by_test, draws_placed, failure_is, failure_not, has_turn, looks_placed, moves_placed, there}

pub placed_by : (s : State) (e : Event) (k : Worker) → worker_at s (actor_of e) ≡ k → IsPlaced s → IsPlaced (step_by s e k).state
placed_by s (Draw w) Free is h = by_test (λ (t : Step). IsPlaced t.state) (ltb s.claim (length s.pieces)) _ _
    (λ t. let room : s.claim < length s.pieces = grind (arith, nat_tests) in
    draws_placed s w (s.claim + 1) (Drawn s.claim) h is (omega arith) (λ n e. cc) (λ n e. let same : s.claim ≡ n = cc in (omega arith, omega arith, omega arith)))
    (λ t. draws_placed s w (s.claim + 1) Done h is (omega arith) (λ n e. cc) (λ n e. absurd (cc)))
placed_by s (Take w) (Drawn n) is h =
    let q : Piece = record (piece_at s n) { holder = Some w } in
    moves_placed s w n (Holding n) q h (there s w (Drawn n) is (λ e. cc)) (ap number_of is) (λ m e. cc) (λ e. refl, λ e. refl) (λ v e. cc)
placed_by s (Look w) (Holding n) is h = looks_placed s w n h is
placed_by s (Lower w) (Holding n) is h = by_test (λ (t : Step). IsPlaced t.state) (piece_at s n).failed _ _
    (λ _. record { untouched = h.untouched; drawn = h.drawn; held = h.held; apart = h.apart }) (λ _. h)
placed_by s (Put w) (Holding n) is h =
    let q : Piece = record (piece_at s n) { holder = None } in
    moves_placed s w n Free q h (there s w (Holding n) is (λ e. cc)) (ap number_of is) (λ m e. absurd (cc)) (λ e. absurd (cc), λ e. absurd (cc)) (λ v e. absurd (cc))
placed_by s e k is h = h

-- a turn that isn't the failing one isn't past it once it is done
not_past_more : (o : Option ℕ) (t : ℕ) → is_failure o t ≡ false → IfSome o (λ f. t ≤ f) → IfSome o (λ f. t + 1 ≤ f)
not_past_more None t e le = tt
not_past_more (Some f) t e le = let other : t ≢ f = failure_not (Some f) t f e refl in omega (arith, other, le)

look_on_turn : (least : ℕ) (p : Piece) → IsOnTurn p → IsOnTurn (looked least p)
look_on_turn least p h = by_test IsOnTurn (is_stopped least p) p (turned p) (λ _. h)
    (λ e. let t = has_turn least p e in by_test IsOnTurn (is_failure p.task.fails p.next) _ _
    (λ u. record { from = h.from; to = h.to; not_past = h.not_past; failed = λ _. failure_is p.task.fails p.next u })
    (λ u. let from = h.from in let more = t.1 in let yet = t.0 in record { from = omega (arith, from); to = omega (arith, more); not_past = not_past_more p.task.fails p.next u h.not_past; failed = λ failed. absurd (cc) }))

pub held_on_turn : (p : Piece) (holder : Option ℕ) → IsOnTurn p → IsOnTurn record p { holder = holder }
held_on_turn p holder h = record { from = h.from; to = h.to; not_past = h.not_past; failed = h.failed }

-- pieces stay on their turns where one is set that is on its own
pub turns_set : (s : State) (n : ℕ) (q : Piece) → n < length s.pieces → All IsOnTurn s.pieces → IsOnTurn q → All IsOnTurn (set s.pieces n q)
turns_set s n q room all new j d lt =
    let len = length-set s.pieces n q in
    each_set (λ i (p : Piece). i < length s.pieces → IsOnTurn p) s.pieces n q d room (λ i _ under. all i d under) (λ _. new) j (omega (arith, lt, len))

pub on_turn_by : (s : State) (e : Event) (k : Worker) → worker_at s (actor_of e) ≡ k → IsPlaced s → All IsOnTurn s.pieces → All IsOnTurn (step_by s e k).state.pieces
on_turn_by s (Draw w) Free is h all = by_test (λ (t : Step). All IsOnTurn t.state.pieces) (ltb s.claim (length s.pieces)) _ _ (λ _. all) (λ _. all)
on_turn_by s (Take w) (Drawn n) is h all =
    let room = (h.drawn w n (ap number_of is)).1 in turns_set s n _ room all (held_on_turn (piece_at s n) (Some w) (all n (untouched no_task) room))
on_turn_by s (Look w) (Holding n) is h all =
    let room = (h.drawn w n (ap number_of is)).1 in turns_set s n _ room all (look_on_turn s.least (piece_at s n) (all n (untouched no_task) room))
on_turn_by s (Lower w) (Holding n) is h all = by_test (λ (t : Step). All IsOnTurn t.state.pieces) (piece_at s n).failed _ _ (λ _. all) (λ _. all)
on_turn_by s (Put w) (Holding n) is h all =
    let room = (h.drawn w n (ap number_of is)).1 in turns_set s n _ room all (held_on_turn (piece_at s n) None (all n (untouched no_task) room))
on_turn_by s e k is h all = all
