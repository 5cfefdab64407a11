-- What a core shows: what each piece is given and how far it is, and what each worker is about.
use Rattle.std.specs.Prelude.{ℕ, List, [], ◌∷◌, map, replicate, slice_index_or, Option, None, false}
use Rattle.mill_sched.specs.declared.piece.Task.{Task}
use Rattle.mill_sched.specs.declared.piece.Piece.{Piece}
use Rattle.mill_sched.specs.declared.worker.Worker.{Worker}
use Rattle.mill_sched.specs.declared.worker.Worker.TheVariants.{Free, Done}

-- the work that was given: how many turns there are, and what each piece is given
pub record Work : Type 0 where
  pub turns : ℕ
  pub tasks : List Task

-- a core: the number that is drawn next, the least value, how many turns there are, the pieces and the workers, each by number
pub record State : Type 0 where
  pub claim : ℕ
  pub least : ℕ
  pub turns : ℕ
  pub pieces : List Piece
  pub workers : List Worker

-- the work that a core was given
abbrev pub work_of : State → Work
work_of s = record { turns = s.turns; tasks = map (λ (p : Piece). p.task) s.pieces }

-- a piece at home, with no turn done
abbrev pub untouched : Task → Piece
untouched task = record { task = task; next = task.first; failed = false; holder = None }

-- a task of no turn
abbrev pub no_task : Task
no_task = record { first = 0; limit = 0; fails = None }

-- the piece of a number; where there is none, an untouched one of no turn
abbrev pub piece_at : State → ℕ → Piece
piece_at s n = slice_index_or s.pieces n (untouched no_task)

-- the worker of a number; one that isn't there is as one that has ended
abbrev pub worker_at : State → ℕ → Worker
worker_at s w = slice_index_or s.workers w Done

-- what each piece is given, by its span and the turn at which it fails
abbrev pub tasks_given : List (ℕ × ℕ) → List (Option ℕ) → List Task
tasks_given [] fails = []
tasks_given (span ∷ spans) [] = []
tasks_given (span ∷ spans) (turn ∷ fails) = record { first = span.0; limit = span.1; fails = turn } ∷ tasks_given spans fails

-- the work that is given by these numbers
abbrev pub work_given : ℕ → List (ℕ × ℕ) → List (Option ℕ) → Work
work_given turns spans fails = record { turns = turns; tasks = tasks_given spans fails }

-- the start: nothing is drawn, the least value is the number of turns, each piece is untouched and each worker free
abbrev pub start_of : Work → ℕ → State
start_of work workers = record { claim = 0; least = work.turns; turns = work.turns; pieces = map untouched work.tasks; workers = replicate workers Free }
