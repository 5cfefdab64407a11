-- The steps that seats make on a board's table, and the events of the machine (mill_sched) that they are.
use Rattle.std.specs.Prelude.{◌≡◌, ℕ, ◌+◌, ◌<◌, ◌≤◌, ◌++◌, min, true, [], ◌∷◌, slice_set, Option, Some, None}
use mathlib.Core.Option.{some, none}
use Rattle.mill_sched.specs.declared.event.Event.{Event}
use Rattle.mill_sched.specs.declared.event.Event.TheVariants.{Draw, Take, Look, Lower, Put}
use Rattle.mill_sched.specs.declared.worker.Worker.TheVariants.{Holding}
use Rattle.mill_sched.specs.States.{State as Core, piece_at, worker_at}
use Rattle.mill_sched.specs.Steps.{step_of}
use Rattle.mill_board.specs.declared.work.Held.{Held}
use Rattle.mill_board.specs.declared.work.Terms.{Terms}
use Rattle.mill_board.specs.declared.view.View.{View}
use Rattle.mill_board.specs.Works.{Means, IsTrueHeld}
use Rattle.mill_board.specs.Seats.{given_half, kept_half}
use Rattle.mill_board.specs.Kept.{BoardState, HasView, back_of, claim_of, least_of}
use Rattle.mill_board.specs.Rules.{Rule}
use Rattle.mill_board.specs.Shows.{AreFails, Shows, idle_worker}

-- what a seat does in one step: it draws the number of a piece; it draws one that is no piece's, and ends; it looks at the least turn; it lowers that to the turn at which its piece has failed; it puts its piece back
pub data Move (P : Type 0) : Type 0 where
  draws : Move P
  ends : Move P
  looks : Move P
  lowers : Held P → Move P
  puts : Held P → Move P

-- a seat with this view can make the step
abbrev pub CanMake : {W P : Type 0} → Means W P → Terms W → BoardState W P → View W → Move P → Type 0
CanMake M terms s v draws = (v.out ≡ None) × (v.ended ≡ None) × (claim_of s < M.pieces terms.work)
CanMake M terms s v ends = (v.out ≡ None) × (v.ended ≡ None) × (M.pieces terms.work ≤ claim_of s)
CanMake M terms s v looks = Unit {0}
CanMake M terms s v (lowers h) = (v.out ≡ Some h.number) × (h.failed ≡ true)
CanMake M terms s v (puts h) = v.out ≡ Some h.number

-- the table after the step: the word that it changes, the slot that it takes or fills, and the view of the seat
abbrev pub table_after : {W P : Type 0} → BoardState W P → ℕ → View W → Move P → BoardState W P
table_after s seat v draws = record { words = slice_set s.words 0 (claim_of s + 1); homes = slice_set s.homes (claim_of s) none; views = slice_set s.views seat (record v { drawn = v.drawn ++ claim_of s ∷ []; out = Some (claim_of s) }) }
table_after s seat v ends = record { words = slice_set s.words 0 (claim_of s + 1); homes = s.homes; views = slice_set s.views seat (record v { ended = Some (claim_of s) }) }
table_after s seat v looks = record { words = slice_set s.words 1 (least_of s); homes = s.homes; views = slice_set s.views seat (record v { seen = least_of s }) }
table_after s seat v (lowers h) = record { words = slice_set s.words 1 (min (least_of s) h.next); homes = s.homes; views = slice_set s.views seat (record v { seen = min (least_of s) h.next }) }
table_after s seat v (puts h) = record { words = slice_set s.words 2 (back_of s + 1); homes = slice_set s.homes h.number (some (Some h)); views = slice_set s.views seat (record v { out = None }) }

-- the event that the step is
abbrev pub event_of : {P : Type 0} → ℕ → Move P → Event
event_of seat draws = Draw seat
event_of seat ends = Draw seat
event_of seat looks = Look seat
event_of seat (lowers h) = Lower seat
event_of seat (puts h) = Put seat

-- the machine's worker holds this piece, as far as it is
pub record HoldsAs {P : Type 0} (core : Core) (seat : ℕ) (h : Held P) : Type 0 where
  pub worker : worker_at core seat ≡ Holding h.number
  pub next : (piece_at core h.number).next ≡ h.next
  pub failed : (piece_at core h.number).failed ≡ h.failed

-- the machine's worker holds the piece that the step has to do with
abbrev pub IsReady : {P : Type 0} → Core → ℕ → Move P → Type 0
IsReady core seat draws = Unit {0}
IsReady core seat ends = Unit {0}
IsReady core seat looks = Unit {0}
IsReady core seat (lowers h) = HoldsAs core seat h
IsReady core seat (puts h) = HoldsAs core seat h

-- under this rule each step of a seat is one event of the machine: the table that it leaves shows the state that the event leaves
abbrev pub StepsAreEvents : {W P : Type 0} → Means W P → Rule W P → Type 0
StepsAreEvents {W} {P} M holds = (terms : Terms W) (s : BoardState W P) (core : Core) (seat : ℕ) (v : View W) (m : Move P) → holds terms s → Shows M terms s core → HasView s seat v
    → CanMake M terms s v m → IsReady core seat m → Shows M terms (table_after s seat v m) (step_of core (event_of seat m)).state

-- what a worker does with its piece between two steps on the table, it takes it and does a turn, is an event each that the table doesn't show
abbrev pub TurnsAreEvents : {W P : Type 0} → Means W P → Rule W P → Type 0
TurnsAreEvents {W} {P} M holds = (terms : Terms W) (s : BoardState W P) (core : Core) (seat : ℕ) (v : View W) → holds terms s → Shows M terms s core → HasView s seat v
    → Shows M terms s (step_of core (Take seat)).state × Shows M terms s (step_of core (Look seat)).state

-- under this rule the table shows a state whose worker holds the piece that its seat has out, as far as it is
abbrev pub ShowsHeld : {W P : Type 0} → Means W P → Rule W P → Type 0
ShowsHeld {W} {P} M holds = (terms : Terms W) (s : BoardState W P) (fails : ℕ → Option ℕ) (seat : ℕ) (v : View W) (h : Held P) → AreFails M terms.work fails → holds terms s → HasView s seat v
    → v.out ≡ Some h.number → IsTrueHeld M terms.work h → (core : Core) × Shows M terms s core × HoldsAs core seat h

-- the table after a seat is split: what it has to spare is halved, and the new seat has the other half
abbrev pub table_split : {W P : Type 0} → BoardState W P → ℕ → View W → BoardState W P
table_split s seat v = record { words = s.words; homes = s.homes; views = slice_set s.views seat (kept_half v) ++ given_half v ∷ [] }

-- under this rule a split is no event, and the table shows one worker more, which is free, or has ended where the seat has
abbrev pub SplitsAddWorkers : {W P : Type 0} → Means W P → Rule W P → Type 0
SplitsAddWorkers {W} {P} M holds = (terms : Terms W) (s : BoardState W P) (core : Core) (seat : ℕ) (v : View W) → holds terms s → Shows M terms s core → HasView s seat v
    → Shows M terms (table_split s seat v) (record core { workers = core.workers ++ idle_worker v.ended ∷ [] })
