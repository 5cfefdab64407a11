-- What an event of a worker does, and what comes of it.
use Rattle.std.specs.Prelude.{ℕ, ◌+◌, ◌==◌, min, nat_lt, nat_le, Bool, true, false, ◌||◌, if◌then◌else◌, List, [], ◌∷◌, length, slice_set, Option, Some, None}
use Rattle.mill_sched.specs.declared.event.Event.{Event}
use Rattle.mill_sched.specs.declared.event.Event.TheVariants.{Draw, Take, Look, Lower, Put}
use Rattle.mill_sched.specs.declared.event.Outcome.{Outcome}
use Rattle.mill_sched.specs.declared.event.Outcome.TheVariants.{Drew, Ended, Took, Passed, Failed, Stopped, Lowered, Back, Idle}
use Rattle.mill_sched.specs.declared.piece.Piece.{Piece}
use Rattle.mill_sched.specs.declared.worker.Worker.{Worker}
use Rattle.mill_sched.specs.declared.worker.Worker.TheVariants.{Free, Drawn, Holding, Done}
use Rattle.mill_sched.specs.States.{State, piece_at, worker_at}

-- the state after an event, and what came of it
pub record Step : Type 0 where
  pub state : State
  pub outcome : Outcome

-- a piece that fails at this turn, if at any, fails at turn t
abbrev pub is_failure : Option ℕ → ℕ → Bool
is_failure None t = false
is_failure (Some f) t = f == t

-- a piece has no turn that has to be done: it has failed, or its turns are through, or the next one is over the least value
abbrev pub is_stopped : ℕ → Piece → Bool
is_stopped least p = p.failed || nat_le p.task.limit p.next || nat_lt least p.next

-- a piece after its next turn, at which it may fail
abbrev pub turned : Piece → Piece
turned p = if is_failure p.task.fails p.next then record p { failed = true } else record p { next = p.next + 1 }

-- a piece after a look at the least value, and what comes of it: its next turn is done, if it has to be
abbrev pub looked : ℕ → Piece → Piece
looked least p = if is_stopped least p then p else turned p

abbrev pub look_outcome : ℕ → Piece → Outcome
look_outcome least p = if is_stopped least p then Stopped else (if is_failure p.task.fails p.next then Failed else Passed)

-- a number that is drawn: the claim rises by one, also where no piece has this number, and then the worker has ended
abbrev pub draw : State → ℕ → Step
draw s w =
    if nat_lt s.claim (length s.pieces)
    then record { state = record s { claim = s.claim + 1; workers = slice_set s.workers w (Drawn s.claim) }; outcome = Drew s.claim }
    else record { state = record s { claim = s.claim + 1; workers = slice_set s.workers w Done }; outcome = Ended }

-- the piece of the number that was drawn goes from home to the worker
abbrev pub take : State → ℕ → ℕ → Step
take s w n = record { state = record s { pieces = slice_set s.pieces n (record (piece_at s n) { holder = Some w }); workers = slice_set s.workers w (Holding n) }; outcome = Took }

-- the piece that is held is looked at
abbrev pub look : State → ℕ → Step
look s n = record { state = record s { pieces = slice_set s.pieces n (looked s.least (piece_at s n)) }; outcome = look_outcome s.least (piece_at s n) }

-- nothing is done
abbrev pub idle : State → Step
idle s = record { state = s; outcome = Idle }

-- the least value is lowered to the turn at which the piece has failed
abbrev pub lower : State → ℕ → Step
lower s n = if (piece_at s n).failed then record { state = record s { least = min s.least (piece_at s n).next }; outcome = Lowered } else idle s

-- the piece that is held goes home, and the worker is free
abbrev pub put : State → ℕ → ℕ → Step
put s w n = record { state = record s { pieces = slice_set s.pieces n (record (piece_at s n) { holder = None }); workers = slice_set s.workers w Free }; outcome = Back }

-- whose event it is
abbrev pub actor_of : Event → ℕ
actor_of (Draw w) = w
actor_of (Take w) = w
actor_of (Look w) = w
actor_of (Lower w) = w
actor_of (Put w) = w

-- what an event does, by what its worker is about; a worker that can't do it now leaves all as it is
abbrev pub step_by : State → Event → Worker → Step
step_by s (Draw w) Free = draw s w
step_by s (Take w) (Drawn n) = take s w n
step_by s (Look w) (Holding n) = look s n
step_by s (Lower w) (Holding n) = lower s n
step_by s (Put w) (Holding n) = put s w n
step_by s e k = idle s

-- what an event does
abbrev pub step_of : State → Event → Step
step_of s e = step_by s e (worker_at s (actor_of e))

-- the state after a list of events
abbrev pub state_after : State → List Event → State
state_after s [] = s
state_after s (e ∷ es) = state_after (step_of s e).state es

-- what came of each of them
abbrev pub outcomes_of : State → List Event → List Outcome
outcomes_of s [] = []
outcomes_of s (e ∷ es) = (step_of s e).outcome ∷ outcomes_of (step_of s e).state es
