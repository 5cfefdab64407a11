-- How far the sorting of boxes into cells has come.
use Rattle.std.specs.Prelude.{◌≡◌, ℕ, zero, suc, ◌+◌, ◌^◌, ◌<◌, ◌≤◌, List, ℤ, length, slice_index, slice_range, All}
use Rattle.mill_base.specs.declared.points.Box2.{Box2}
use Rattle.mill_cells.specs.Frames.{cell_count}
use Rattle.mill_cells.specs.Sorted.{top_at, AreUnder}
use Rattle.mill_cells.specs.Grids.{numbers, start_of}
use Rattle.mill_cells.specs.declared.frame.Frame.{Frame}

-- each cell before t has its state after box m, and each other one that before box m
pub record IsUpTo (cells : ℕ) (State : ℕ → ℕ → Type 0) (m t : ℕ) : Type 0 where
  pub before : (k : ℕ) → k < t → k < cells → State k (m + 1)
  pub after : (k : ℕ) → t ≤ k → k < cells → State k m

-- the place of cell k has the count of those of the first m boxes that cover it
abbrev pub IsCounted : Frame → List Box2 → List ℕ → ℕ → ℕ → Type 0
IsCounted f boxes starts k m = slice_index starts (k + 1) ≡ length (numbers f boxes k m)

-- the boxes before m are counted, and m itself in the cells before t
pub record IsCounting (f : Frame) (boxes : List Box2) (starts : List ℕ) (m t : ℕ) : Type 0 where
  pub long : length starts ≡ cell_count f + 1
  pub first : slice_index starts 0 ≡ 0
  pub upto : IsUpTo (cell_count f) (IsCounted f boxes starts) m t

-- the sum of the k places after the first
abbrev pub sum_before : List ℕ → ℕ → ℕ
sum_before starts zero = 0
sum_before starts (suc k) = sum_before starts k + slice_index starts (k + 1)

-- each is a count of boxes
abbrev pub AreSmall : List ℕ → Type 0
AreSmall starts = (k : ℕ) → k < length starts → slice_index starts k < 2 ^ 32

-- the entries of cell k begin with those of the first m boxes that cover it, and its next place is behind them
pub record IsPlaced (f : Frame) (boxes : List Box2) (starts entries : List ℕ) (k m : ℕ) : Type 0 where
  pub free : slice_index starts (k + 1) ≡ start_of f boxes k + length (numbers f boxes k m)
  pub filled : (q : ℕ) → q < length (numbers f boxes k m) → slice_index entries (start_of f boxes k + q) ≡ slice_index (numbers f boxes k m) q

-- the boxes before m are placed, and m itself in the cells before t
pub record IsPlacing (f : Frame) (boxes : List Box2) (starts entries : List ℕ) (m t : ℕ) : Type 0 where
  pub long : length starts ≡ cell_count f + 1
  pub first : slice_index starts 0 ≡ 0
  pub size : length entries ≡ start_of f boxes (cell_count f)
  pub known : All (λ i. i < length boxes) entries
  pub upto : IsUpTo (cell_count f) (IsPlaced f boxes starts entries) m t

-- each lid is no lower than the tops of the numbers in its cell
abbrev pub AreLids : List ℕ → List ℕ → List ℤ → List ℤ → Type 0
AreLids starts entries tops lids = (k : ℕ) → k < length lids → AreUnder tops (top_at lids k) (slice_range entries (slice_index starts k) (slice_index starts (k + 1)))
