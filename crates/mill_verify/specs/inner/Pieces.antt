-- Tests (ii) to (iii h) of a program as pieces of work that threads share: the blocks of its moves and, after them, the rows of the stock.
use Rattle.std.specs.Prelude.{◌≡◌, ℕ, ◌+◌, ◌-◌, ◌<◌, ◌≤◌, cond, ltb, List, [], ◌∷◌, length, Option}
use Rattle.mill_base.specs.declared.limits.TheConstants.{MAX_MOVES}
use Rattle.mill_base.specs.declared.points.Tri.{Tri}
use Rattle.mill_base.specs.declared.motion.Move.{Move}
use Rattle.mill_base.specs.Ranges.{MovesInRange}
use Rattle.mill_board.specs.Works.{IsClosed, Means}
use Rattle.mill_board.specs.declared.work.Held.{Held}
use Rattle.mill_job.specs.declared.fields.JobFields.{JobFields}
use Rattle.mill_job.specs.Columns.{row_count}
use Rattle.mill_dexel.specs.Rows.{RowState, fresh_row}
use Rattle.mill_dexel.specs.Stocks.{IsStockOf}
use Rattle.mill_dexel.specs.Tops.{Stock as OneStock}
use Rattle.mill_dexel.specs.Turns.{ClearsRow, IsRowStopped, move_at, row_before}
use Rattle.mill_verify.specs.Blocks.{IsBlockStopped, block_count, block_of}
use Rattle.mill_verify.specs.Clashes.{IsClear}
use Rattle.mill_verify.specs.inner.Firsts.{block_before}
use Rattle.mill_verify.specs.inner.Readiness.{start_stock}
use Rattle.mill_verify.specs.declared.piece.Piece.{Piece}
use Rattle.mill_verify.specs.declared.piece.Piece.TheVariants.{Block, Stock}

-- what the tests are made of: the job, the part, the rows of the stock before the first move, if it is cut, the moves, and how many of these have turns
pub record TestsShown : Type 0 where
  pub job : JobFields
  pub part : List Tri
  pub start : Option (List RowState)
  pub moves : List Move
  pub turns : ℕ

-- the stock is the job's, the moves are in range, and no more of them have turns than there are
pub record AreReady (job : JobFields) (start : OneStock) (moves : List Move) (turns : ℕ) : Type 0 where
  pub start_ok : IsStockOf job start
  pub moves_ok : MovesInRange moves
  pub few : length moves ≤ MAX_MOVES
  pub within : turns ≤ length moves

-- the stock before the first move
abbrev pub stock_under : TestsShown → OneStock
stock_under w = start_stock w.job w.start

-- in how many blocks the moves stand that have turns
abbrev pub blocks_of : TestsShown → ℕ
blocks_of w = block_count w.turns

-- the blocks and, after them, the rows
abbrev pub piece_count : TestsShown → ℕ
piece_count w = blocks_of w + row_count w.job

-- the turns of a block are those of its moves, and a row has them all
abbrev pub first_turn : TestsShown → ℕ → ℕ
first_turn w n = cond (ltb n (blocks_of w)) (block_of w.turns n).first 0

abbrev pub turn_limit : TestsShown → ℕ → ℕ
turn_limit w n = cond (ltb n (blocks_of w)) (block_of w.turns n).limit w.turns

-- a block before its first turn, or a row of the stock
abbrev pub fresh_piece : TestsShown → ℕ → Piece
fresh_piece w n = cond (ltb n (blocks_of w)) (Block n (block_of w.turns n)) (Stock n (fresh_row w.job (stock_under w) (n - blocks_of w)))

-- piece n as its turns before t leave it, all of which it passed
abbrev pub IsPieceAt : TestsShown → ℕ → ℕ → Piece → Type 0
IsPieceAt w n t (Block m b) = (m ≡ n) × (n < blocks_of w) × (b ≡ block_before (block_of w.turns n) t)
IsPieceAt w n t (Stock m r) = (m ≡ n) × (n ≡ blocks_of w + r.row) × (r ≡ row_before w.job w.moves (fresh_row w.job (stock_under w) r.row) t)

-- move t passes the tests of piece n: a block's are those against the part and the fixtures, and a row's those against the row's columns
pub record PassesTest (w : TestsShown) (n t : ℕ) : Type 0 where
  pub block : n < blocks_of w → IsClear w.job w.part (move_at w.moves t)
  pub stock : (j : ℕ) → n ≡ blocks_of w + j → ClearsRow w.job (row_before w.job w.moves (fresh_row w.job (stock_under w) j) t) (move_at w.moves t)

-- piece n as its turn t leaves it, which it failed
abbrev pub IsPieceFailed : TestsShown → ℕ → ℕ → Piece → Type 0
IsPieceFailed w n t (Block m b) = (m ≡ n) × (n < blocks_of w) × IsBlockStopped w.job w.part w.moves (block_before (block_of w.turns n) t) b
IsPieceFailed w n t (Stock m r) = (m ≡ n) × (n ≡ blocks_of w + r.row) × IsRowStopped w.job (move_at w.moves t) (row_before w.job w.moves (fresh_row w.job (stock_under w) r.row) t) r

-- what the tests mean as work
abbrev pub tests : Means TestsShown Piece
tests = record { pieces = piece_count; first = first_turn; limit = turn_limit; start = fresh_piece; IsAt = IsPieceAt; Passes = PassesTest; IsFailed = IsPieceFailed }

-- what the tests come to
abbrev pub AreTested : JobFields → List Tri → Option (List RowState) → List Move → ℕ → ℕ → List (Held Piece) → Type 0
AreTested job part start moves turns least pieces = IsClosed tests (record { work = record { job = job; part = part; start = start; moves = moves; turns = turns }; turns = turns }) least pieces

-- the row of the stock that a piece is, if it is one
abbrev pub row_of : Piece → List RowState
row_of (Block m b) = []
row_of (Stock m r) = r ∷ []

abbrev pub row_in : Held Piece → List RowState
row_in h = row_of h.piece
