-- Where each test fails first, apart from the tests before it.
use Rattle.std.specs.Prelude.{◌≡◌, ◌⊎◌, ℕ, ◌<◌, ◌≤◌, ℤ, pos, ◌-ℤ◌, ◌<ℤ◌, ◌≤ℤ◌, List, length, Result, Ok, Err, MatchResult}
use Rattle.std.specs.Int.{int_max}
use Rattle.mill_base.specs.declared.points.Tri.{Tri}
use Rattle.mill_base.specs.declared.motion.Move.{Move}
use Rattle.mill_base.specs.Covers.{Covered, IsHighestCovered}
use Rattle.mill_job.specs.declared.fields.JobFields.{JobFields}
use Rattle.mill_job.specs.Columns.{IsColumn, column_count}
use Rattle.mill_dexel.specs.Tops.{Stock, stock_after}
use Rattle.mill_dexel.specs.Rows.{RowState}
use Rattle.mill_dexel.specs.Stocks.{ShowsStock}
use Rattle.mill_verify.specs.Blocks.{BlockState}
use Rattle.mill_verify.specs.Tests.{GoodBeforeOn, IsCutOn, IsOverFloor}
use Rattle.mill_verify.specs.Verdicts.{IsFirstUncut, IsLeftOverOn, IsMostLeftOn, IsOfMove, IsRejectionOn, NamesLeaf}
use Rattle.mill_verify.specs.declared.verdict.Reason.{Reason}
use Rattle.mill_verify.specs.declared.left.Uncut.{Uncut}

-- every move is good, and the rows are the stock that all of them leave
pub record ArePassed (job : JobFields) (part : List Tri) (start : Stock) (moves : List Move) (rows : List RowState) : Type 0 where
  pub good : GoodBeforeOn job part start moves (length moves)
  pub shows : ShowsStock job (stock_after job start moves) rows

-- a move fails a test, this is the first, and the leaf that it names is one of the last, and blocked
pub record IsStopped (job : JobFields) (part : List Tri) (start : Stock) (moves : List Move) (reason : Reason) : Type 0 where
  pub of_move : IsOfMove reason
  pub rejects : IsRejectionOn job part start moves reason
  pub names : NamesLeaf job part start moves reason

-- a block as move k meets it: all its moves before that have had their turn, and cleared the part and the fixtures
abbrev pub block_before : BlockState → ℕ → BlockState
block_before b k = record b { next = k }

-- the moves before this number pass test (i), and the move there, if there is one, doesn't
pub record IsFloorEnd (job : JobFields) (moves : List Move) (end_at : ℕ) : Type 0 where
  pub within : end_at ≤ length moves
  pub over : (k : ℕ) → k < end_at → IsOverFloor job moves k
  pub fails : end_at < length moves → ¬ IsOverFloor job moves end_at

-- a column at (x, y) with this top is cut to within the allowance, and is left this much over its greatest covered height
pub record IsCutTo (job : JobFields) (part : List Tri) (x y top left : ℤ) : Type 0 where
  pub cut : Covered part job.floor job.band x y (top -ℤ job.allowance)
  pub height : ℤ
  pub highest : IsHighestCovered part job.floor job.band x y top height
  pub difference : left ≡ top -ℤ height

-- a column at (x, y) with this top is cut to within the allowance, and next is the greater of most and what is left there
pub record IsMostWith (job : JobFields) (part : List Tri) (x y top most next : ℤ) : Type 0 where
  pub cut : Covered part job.floor job.band x y (top -ℤ job.allowance)
  pub least : most ≤ℤ next
  pub there : (((pos 0) <ℤ most) × (next ≡ most)) ⊎ IsCutTo job part x y top next
  pub bound : (left : ℤ) → IsCutTo job part x y top left → left ≤ℤ next

-- every column of row j is cut, and this is the most that any of them is left over
pub record IsRowLeft (job : JobFields) (part : List Tri) (stock : Stock) (j : ℕ) (left : ℤ) : Type 0 where
  pub cut : (i : ℕ) → i < column_count job → IsCutOn job part stock j i
  pub col : ℕ
  pub column : col < column_count job
  pub there : IsLeftOverOn job part stock j col left
  pub most : (i : ℕ) (other : ℤ) → i < column_count job → IsLeftOverOn job part stock j i other → other ≤ℤ left

-- column i is the first of row j that isn't cut, and has this top
pub record IsRowUncut (job : JobFields) (part : List Tri) (stock : Stock) (j i : ℕ) (top : ℤ) : Type 0 where
  pub column : i < column_count job
  pub first : (e : ℕ) → e < i → IsCutOn job part stock j e
  pub fails : ¬ IsCutOn job part stock j i
  pub shown : top ≡ stock j i

-- most is the greatest number that L holds of an index from s to before e; 0 where there is none
pub record IsMostOf (L : ℕ → ℤ → Type 0) (s e : ℕ) (most : ℤ) : Type 0 where
  pub low : pos 0 ≤ℤ most
  pub none : e ≤ s → most ≡ pos 0
  pub there : s < e → (i : ℕ) × (s ≤ i) × (i < e) × L i most
  pub bound : (i : ℕ) (x : ℤ) → s ≤ i → i < e → L i x → x ≤ℤ most

-- some column of row j is left over by this much
abbrev pub LeftInRow : JobFields → List Tri → Stock → ℕ → ℤ → Type 0
LeftInRow job part stock j left = (i : ℕ) × (i < column_count job) × IsLeftOverOn job part stock j i left

-- every column of the rows from s to before e is cut, and this is the most that any of them is left over; 0 where there is no row
pub record AreRowsLeft (job : JobFields) (part : List Tri) (stock : Stock) (s e : ℕ) (left : ℤ) : Type 0 where
  pub cut : (j i : ℕ) → s ≤ j → j < e → i < column_count job → IsCutOn job part stock j i
  pub most : IsMostOf (LeftInRow job part stock) s e left

-- of the rows from s to before e, column (j, i) is the first that isn't cut, and has this top
pub record IsFirstUncutOf (job : JobFields) (part : List Tri) (stock : Stock) (s e j i : ℕ) (top : ℤ) : Type 0 where
  pub start : s ≤ j
  pub there : j < e
  pub before : (a b : ℕ) → s ≤ a → a < j → b < column_count job → IsCutOn job part stock a b
  pub row : IsRowUncut job part stock j i top

-- what the test of a range of rows says
abbrev pub AreRowsTold : JobFields → List Tri → Stock → ℕ → ℕ → Result ℤ Uncut → Type 0
AreRowsTold job part stock s e told = MatchResult told (AreRowsLeft job part stock s e) (λ uncut. IsFirstUncutOf job part stock s e uncut.row uncut.col uncut.top)

-- what two ranges of rows say together: the first column that isn't cut, of the left one first, else the greater of what is left
abbrev pub IsBoth : Result ℤ Uncut → Result ℤ Uncut → Result ℤ Uncut → Type 0
IsBoth (Err uncut) right told = told ≡ Err uncut
IsBoth (Ok most) (Err uncut) told = told ≡ Err uncut
IsBoth (Ok most) (Ok other) told = told ≡ Ok (int_max most other)

-- every column is cut, and this is the most that any is left over
pub record IsStockLeft (job : JobFields) (part : List Tri) (stock : Stock) (left : ℤ) : Type 0 where
  pub cut : (j i : ℕ) → IsColumn job j i → IsCutOn job part stock j i
  pub most : IsMostLeftOn job part stock left

-- what the test of a stock says: how much is left at most, or the first column that isn't cut
abbrev pub IsStockTold : JobFields → List Tri → Stock → Result ℤ Uncut → Type 0
IsStockTold job part stock told = MatchResult told (IsStockLeft job part stock) (λ uncut. IsFirstUncut job part stock uncut.row uncut.col uncut.top)
