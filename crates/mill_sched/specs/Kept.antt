-- What every core keeps, whatever work it was given.
use Rattle.std.specs.Prelude.{◌≡◌, ℕ, ◌+◌, ◌≤◌, Bool, true, false, IsTrue, length, count_by, Some}
use Rattle.mill_sched.specs.declared.piece.Piece.{Piece}
use Rattle.mill_sched.specs.declared.worker.Worker.{Worker}
use Rattle.mill_sched.specs.declared.worker.Worker.TheVariants.{Done}
use Rattle.mill_sched.specs.States.{State, piece_at}
use Rattle.mill_sched.specs.Laws.{IsPlaced, IsCaused}

-- a piece is at one of its turns or through with them, as far as its span and its failing turn let it: those that lie the wrong way round say nothing
pub record GoesOn (p : Piece) : Type 0 where
  pub from : p.task.first ≤ p.next
  pub to : p.task.first ≤ p.task.limit → p.next ≤ p.task.limit
  pub not_past : (f : ℕ) → p.task.fails ≡ Some f → p.task.first ≤ f → p.next ≤ f
  pub failed : IsTrue p.failed → p.task.fails ≡ Some p.next

-- a worker has ended
abbrev pub is_done : Worker → Bool
is_done Done = true
is_done k = false

-- what a core keeps: each piece goes on so, pieces and workers are placed, the claim counts no more than the pieces and the workers that have ended, and the least value has its cause
pub record Kept (s : State) : Type 0 where
  pub pieces : (n : ℕ) → GoesOn (piece_at s n)
  pub placed : IsPlaced s
  pub claim : s.claim ≤ length s.pieces + count_by is_done s.workers
  pub cause : IsCaused s
  pub under : s.least ≤ s.turns
