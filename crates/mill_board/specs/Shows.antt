-- A board's table as a state of the machine of events (mill_sched).
use Rattle.std.specs.Prelude.{◌≡◌, ◌↔◌, ℕ, ◌<◌, length, All, Option, Some, None}
use Rattle.mill_sched.specs.declared.piece.Task.{Task}
use Rattle.mill_sched.specs.declared.piece.Piece.{Piece}
use Rattle.mill_sched.specs.declared.worker.Worker.{Worker}
use Rattle.mill_sched.specs.declared.worker.Worker.TheVariants.{Free, Done}
use Rattle.mill_sched.specs.States.{State as Core, piece_at, worker_at}
use Rattle.mill_sched.specs.Laws.{IsOnTurn, IsPlaced, number_of}
use Rattle.mill_board.specs.declared.work.Held.{Held}
use Rattle.mill_board.specs.declared.work.Terms.{Terms}
use Rattle.mill_board.specs.declared.view.View.{View}
use Rattle.mill_board.specs.Works.{Means, FailsAt}
use Rattle.mill_board.specs.Kept.{BoardState, HasHome, HasView, IsOut, claim_of, least_of, times}
use Rattle.mill_board.specs.Rules.{Rule}

-- a piece is at home, as far as this one
pub record IsHomeAs {P : Type 0} (h : Held P) (piece : Piece) : Type 0 where
  pub next : piece.next ≡ h.next
  pub failed : piece.failed ≡ h.failed
  pub home : piece.holder ≡ None

-- these are the turns at which the pieces of a work fail, each at its own, and none where a piece fails at no turn
abbrev pub AreFails : {W P : Type 0} → Means W P → W → (ℕ → Option ℕ) → Type 0
AreFails M work fails = (n t : ℕ) → n < M.pieces work → (fails n ≡ Some t) ↔ FailsAt M work n t

-- a task has the turns of the piece of a number, and the one at which it fails, if it does
pub record IsTaskOf {W P : Type 0} (M : Means W P) (work : W) (n : ℕ) (task : Task) : Type 0 where
  pub first : task.first ≡ M.first work n
  pub limit : task.limit ≡ M.limit work n
  pub fails : (t : ℕ) → (task.fails ≡ Some t) ↔ FailsAt M work n t

-- a slot that is out is the one of a seat that drew its number, and whose worker has drawn it or holds its piece
pub record IsOutWith {W P : Type 0} (M : Means W P) (s : BoardState W P) (core : Core) (n seat : ℕ) (v : View W) : Type 0 where
  pub view : HasView s seat v
  pub out : v.out ≡ Some n
  pub drawn : 0 < times n v.drawn
  pub worker : number_of (worker_at core seat) ≡ Some n

-- what a worker without a piece is about: it is free, or it has ended at a number
abbrev pub idle_worker : Option ℕ → Worker
idle_worker None = Free
idle_worker (Some n) = Done

-- the table shows a state of the machine: the same claim and least value, a piece for each slot, a worker for each seat that was made; a slot at home has its piece as far as the machine has it, and one that is out belongs to a worker; the machine's pieces and workers are placed, and its pieces are on their turns
pub record Shows {W P : Type 0} (M : Means W P) (terms : Terms W) (s : BoardState W P) (core : Core) : Type 0 where
  pub claim : core.claim ≡ claim_of s
  pub least : core.least ≡ least_of s
  pub turns : core.turns ≡ terms.turns
  pub pieces : length core.pieces ≡ M.pieces terms.work
  pub workers : length core.workers ≡ length s.views
  pub tasks : (n : ℕ) → n < M.pieces terms.work → IsTaskOf M terms.work n (piece_at core n).task
  pub home : (n : ℕ) (h : Held P) → HasHome s n (Some h) → IsHomeAs h (piece_at core n)
  pub out : (n : ℕ) → IsOut s n → (seat : ℕ) × (v : View W) × IsOutWith M s core n seat v
  pub numbers : (seat : ℕ) (v : View W) → HasView s seat v → number_of (worker_at core seat) ≡ v.out
  pub idle : (seat : ℕ) (v : View W) → HasView s seat v → v.out ≡ None → worker_at core seat ≡ idle_worker v.ended
  pub placed : IsPlaced core
  pub on_turn : All IsOnTurn core.pieces

-- whenever a rule holds, the table shows such a state, of the machine that is told at which turns the work's pieces fail
abbrev pub ShowsCore : {W P : Type 0} → Means W P → Rule W P → Type 0
ShowsCore {W} {P} M holds = (terms : Terms W) (s : BoardState W P) (fails : ℕ → Option ℕ) → AreFails M terms.work fails → holds terms s → (core : Core) × Shows M terms s core
