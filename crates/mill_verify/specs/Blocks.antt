-- A block of moves as a piece of tests (ii) to (ii hf): the turns that it has, and what becomes of it, one turn a move.
use Rattle.std.specs.Prelude.{◌≡◌, ℕ, ◌+◌, ◌*◌, ◌/◌, min, List, Option, Some, None}
use Rattle.mill_base.specs.declared.points.Tri.{Tri}
use Rattle.mill_base.specs.declared.motion.Move.{Move}
use Rattle.mill_job.specs.declared.fields.JobFields.{JobFields}
use Rattle.mill_dexel.specs.Turns.{move_at}
use Rattle.mill_verify.specs.Clashes.{IsClash}
use Rattle.mill_verify.specs.declared.clash.Clash.{Clash}

-- the moves of a block, from the first on and before the limit, the one that has its turn next, and how this one failed, if it did
pub record BlockState : Type 0 where
  pub first : ℕ
  pub limit : ℕ
  pub next : ℕ
  pub failed : Option Clash

-- in how many blocks so many moves stand
abbrev pub block_count : ℕ → ℕ
block_count turns = (turns + 63) / 64

-- block n of so many moves, at its start: its moves are those from 64 * n to before the lesser of 64 * n + 64 and their number
abbrev pub block_of : ℕ → ℕ → BlockState
block_of turns n = record { first = n * 64; limit = min (n * 64 + 64) turns; next = n * 64; failed = None }

-- the block after its next move, on which the tool cleared the part and the fixtures
abbrev pub turned : BlockState → BlockState
turned b = record b { next = b.next + 1 }

-- the tool clashes on the block's next move: how is noted, and the rest is as it was
pub record IsBlockStopped (job : JobFields) (part : List Tri) (moves : List Move) (old new : BlockState) : Type 0 where
  pub fail : Clash
  pub fails : IsClash job part (move_at moves old.next) fail
  pub noted : new ≡ record old { failed = Some fail }
