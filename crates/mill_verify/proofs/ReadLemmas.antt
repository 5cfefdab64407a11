-- The move that the code reads is the one that the tests speak of, whatever stands for a missing one.
use Rattle.std.specs.Prelude.{◌≡◌, ℕ, ◌<◌, List, length, slice_index_or}
use Rattle.std.proofs.Common.{subst}
use Rattle.std.proofs.lemmas.List.{get_or_default}
use Rattle.mill_base.specs.declared.motion.Move.{Move}
use Rattle.mill_dexel.specs.Turns.{move_at}

pub move_read : (moves : List Move) (k : ℕ) (d : Move) → k < length moves → slice_index_or moves k d ≡ move_at moves k
move_read moves k d h = get_or_default moves k d _ h

-- a fact about the move that was read
pub at_move : (P : Move → Type 0) (moves : List Move) (k : ℕ) (d : Move) → k < length moves → P (slice_index_or moves k d) → P (move_at moves k)
at_move P moves k d h p = subst P (move_read moves k d h) p
