-- The laws that hold after every list of events.
use Rattle.std.specs.Prelude.{◌≡◌, ◌⊎◌, ◌↔◌, ℕ, ◌<◌, ◌≤◌, ◌==◌, min, Bool, false, IsTrue, List, [], ◌∷◌, length, All, count_by, slice_get, Option, Some, None, IfSome, unwrap_or}
use Rattle.mill_sched.specs.declared.event.Event.{Event}
use Rattle.mill_sched.specs.declared.event.Event.TheVariants.{Draw, Take, Look, Lower, Put}
use Rattle.mill_sched.specs.declared.event.Outcome.{Outcome}
use Rattle.mill_sched.specs.declared.event.Outcome.TheVariants.{Drew}
use Rattle.mill_sched.specs.declared.piece.Task.{Task}
use Rattle.mill_sched.specs.declared.piece.Piece.{Piece}
use Rattle.mill_sched.specs.declared.worker.Worker.{Worker}
use Rattle.mill_sched.specs.declared.worker.Worker.TheVariants.{Free, Drawn, Holding, Done}
use Rattle.mill_sched.specs.States.{State, Work, piece_at, work_of, worker_at}

-- ----------------------------------------------------------------
-- who can do what

-- the event's worker is there, and can do it now: a free one draws, one that has drawn a number takes its piece, one that holds a piece looks and puts it back, and lowers where the piece has failed
abbrev pub CanDo : State → Event → Type 0
CanDo s (Draw w) = slice_get s.workers w ≡ Some Free
CanDo s (Take w) = (n : ℕ) × (slice_get s.workers w ≡ Some (Drawn n))
CanDo s (Look w) = (n : ℕ) × (slice_get s.workers w ≡ Some (Holding n))
CanDo s (Lower w) = (n : ℕ) × (slice_get s.workers w ≡ Some (Holding n)) × IsTrue (piece_at s n).failed
CanDo s (Put w) = (n : ℕ) × (slice_get s.workers w ≡ Some (Holding n))

-- ----------------------------------------------------------------
-- what was given

-- the work stays as it was given, and so do the pieces and the workers in their number
pub record SameGiven (old new : State) : Type 0 where
  pub work : work_of new ≡ work_of old
  pub pieces : length new.pieces ≡ length old.pieces
  pub workers : length new.workers ≡ length old.workers

-- ----------------------------------------------------------------
-- the numbers

-- an outcome tells that this number was drawn
abbrev pub is_drawing : ℕ → Outcome → Bool
is_drawing n (Drew m) = m == n
is_drawing n o = false

-- how often a number was drawn
abbrev pub times_drawn : ℕ → List Outcome → ℕ
times_drawn n outcomes = count_by (is_drawing n) outcomes

-- from one state to another each number from the old claim on that is under the new one and under the count of pieces was drawn exactly once, and no other number was drawn
pub record DrawsEachOnce (old new : State) (outcomes : List Outcome) : Type 0 where
  pub once : (n : ℕ) → old.claim ≤ n → n < new.claim → n < length new.pieces → times_drawn n outcomes ≡ 1
  pub no_earlier : (n : ℕ) → n < old.claim → times_drawn n outcomes ≡ 0
  pub no_later : (n : ℕ) → new.claim ≤ n → times_drawn n outcomes ≡ 0
  pub no_further : (n : ℕ) → length new.pieces ≤ n → times_drawn n outcomes ≡ 0

-- ----------------------------------------------------------------
-- the places

-- the number that a worker has drawn or whose piece it holds
abbrev pub number_of : Worker → Option ℕ
number_of Free = None
number_of (Drawn n) = Some n
number_of (Holding n) = Some n
number_of Done = None

-- a piece is home, and none of its turns is done
pub record IsUntouched (p : Piece) : Type 0 where
  pub next : p.next ≡ p.task.first
  pub unfailed : p.failed ≡ false
  pub home : p.holder ≡ None

-- a piece at or over the claim is untouched, and no worker has drawn or holds it; every other is home, or held by the one worker that it names; no two workers have drawn or hold the same
pub record IsPlaced (s : State) : Type 0 where
  pub untouched : (n : ℕ) → s.claim ≤ n → IsUntouched (piece_at s n)
  pub drawn : (w n : ℕ) → number_of (worker_at s w) ≡ Some n → (n < s.claim) × (n < length s.pieces)
  pub held : (w n : ℕ) → (worker_at s w ≡ Holding n) ↔ ((piece_at s n).holder ≡ Some w)
  pub apart : (v w n : ℕ) → number_of (worker_at s v) ≡ Some n → number_of (worker_at s w) ≡ Some n → v ≡ w

-- ----------------------------------------------------------------
-- the turns

-- a task's turns lie under the number of all turns, and the one at which it fails is one of its own
pub record IsFit (turns : ℕ) (task : Task) : Type 0 where
  pub order : task.first ≤ task.limit
  pub under : task.limit ≤ turns
  pub fails : IfSome task.fails (λ f. (task.first ≤ f) × (f < task.limit))

-- each task of the work is fit
abbrev pub Fits : Work → Type 0
Fits work = All (IsFit work.turns) work.tasks

-- a piece's next turn is one of its own, or its turns are through; it isn't past the turn at which the piece fails, and where the piece has failed, it is this turn
pub record IsOnTurn (p : Piece) : Type 0 where
  pub from : p.task.first ≤ p.next
  pub to : p.next ≤ p.task.limit
  pub not_past : IfSome p.task.fails (λ f. p.next ≤ f)
  pub failed : IsTrue p.failed → p.task.fails ≡ Some p.next

-- ----------------------------------------------------------------
-- the least value

-- the least of the turns at which these tasks fail, or this number of turns
abbrev pub least_of : ℕ → List Task → ℕ
least_of turns [] = turns
least_of turns (task ∷ tasks) = min (unwrap_or task.fails turns) (least_of turns tasks)

-- the least turn at which a piece of the work fails, or the number of turns
abbrev pub least_failure : Work → ℕ
least_failure work = least_of work.turns work.tasks

-- the least value is the number of turns, or the turn at which some piece has failed
abbrev pub IsCaused : State → Type 0
IsCaused s = (s.least ≡ s.turns) ⊎ ((n : ℕ) × IsTrue (piece_at s n).failed × ((piece_at s n).next ≡ s.least))

-- nothing is left to be done for a piece: it has failed and the least value is at most its turn, or its turns are through, or its next one is over the least value
abbrev pub NeedsNoTurn : ℕ → Piece → Type 0
NeedsNoTurn least p = (IsTrue p.failed × (least ≤ p.next)) ⊎ (p.task.limit ≤ p.next) ⊎ (least < p.next)

-- nothing is left to be done
abbrev pub IsSettled : State → Type 0
IsSettled s = All (NeedsNoTurn s.least) s.pieces
