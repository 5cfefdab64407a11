-- The first piece that has failed at a turn, and why.
use Rattle.std.specs.Prelude.{◌≡◌, ℕ, ◌+◌, ◌^◌, ◌<◌, true, List, length, slice_get, Option, Some, None}
use Rattle.mill_base.specs.declared.motion.Kind.{Kind}
use Rattle.mill_board.specs.declared.work.Held.{Held}
use Rattle.mill_verify.specs.declared.clash.Clash.{Clash}
use Rattle.mill_dexel.specs.declared.fail.RowFail.{RowFail}
use Rattle.mill_dexel.specs.declared.fail.RowTest.{RowTest}
use Rattle.mill_dexel.specs.declared.fail.RowTest.TheVariants as test
use Rattle.mill_verify.specs.declared.piece.Piece.{Piece}
use Rattle.mill_verify.specs.declared.piece.Piece.TheVariants.{Block, Stock}
use Rattle.mill_verify.specs.declared.verdict.Reason.{Reason}
use Rattle.mill_verify.specs.Reasons.{clash_reason, stock_reason}

-- a held piece has failed at this turn
abbrev pub HasFailed : ℕ → Held Piece → Type 0
HasFailed t h = (h.failed ≡ true) × (h.next ≡ t)

-- no piece of a number under the bound has failed at this turn
abbrev pub NoneFailed : ℕ → List (Held Piece) → ℕ → Type 0
NoneFailed t pieces bound = (n : ℕ) (h : Held Piece) → n < bound → slice_get pieces n ≡ Some h → ¬ HasFailed t h

-- the test that a row has failed; the cutter's stands for all other ways
abbrev pub test_in : Option RowFail → RowTest
test_in None = test.Cut
test_in (Some f) = f.test

-- the holder's test for a row that has failed it, which comes after all others of the same move, and the cutter's for all other pieces
abbrev pub test_of : Piece → RowTest
test_of (Block m b) = test.Cut
test_of (Stock m r) = test_in r.failed

-- a held piece has failed at this turn, as a row by the holder's test or in another way, as told
abbrev pub HasFailedBy : RowTest → ℕ → Held Piece → Type 0
HasFailedBy by t h = HasFailed t h × (test_of h.piece ≡ by)

-- no piece of a number under the bound has failed so at this turn
abbrev pub NoneFailedBy : RowTest → ℕ → List (Held Piece) → ℕ → Type 0
NoneFailedBy by t pieces bound = (n : ℕ) (h : Held Piece) → n < bound → slice_get pieces n ≡ Some h → ¬ HasFailedBy by t h

-- the piece of this number has failed so at this turn, and none before it has
pub record IsFirstFailedBy (by : RowTest) (t : ℕ) (pieces : List (Held Piece)) (n : ℕ) : Type 0 where
  pub held : Held Piece
  pub there : slice_get pieces n ≡ Some held
  pub failed : HasFailedBy by t held
  pub before : NoneFailedBy by t pieces n

-- the piece of this number has failed at this turn; where it is a row by the holder's test no piece has failed in another way, and none before it has failed in its way
pub record IsFirstFailed (t : ℕ) (pieces : List (Held Piece)) (n : ℕ) : Type 0 where
  pub held : Held Piece
  pub there : slice_get pieces n ≡ Some held
  pub failed : HasFailed t held
  pub cut : test_of held.piece ≡ test.Holder → NoneFailedBy test.Cut t pieces (length pieces)
  pub before : NoneFailedBy (test_of held.piece) t pieces n

-- why a piece has failed at a turn, a move of this kind, where rows come after so many blocks: a block names a triangle or a fixture, and a row a column
abbrev pub IsReasonOf : Kind → ℕ → ℕ → Piece → Reason → Type 0
IsReasonOf kind blocks t (Block m b) reason = (found : Clash) × (b.failed ≡ Some found) × (reason ≡ clash_reason t found)
IsReasonOf kind blocks t (Stock m r) reason = (fail : RowFail) × (r.failed ≡ Some fail) × (m ≡ blocks + r.row) × (m < 2 ^ 32) × (reason ≡ stock_reason fail.test kind t r.row fail.col fail.leaf)
