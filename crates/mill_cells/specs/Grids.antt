-- The numbers of the boxes, sorted into cells.
use Rattle.std.specs.Prelude.{◌≡◌, ℕ, zero, suc, ◌+◌, ◌^◌, ◌<◌, ◌≤◌, if◌then◌else◌, Bool, List, [], ◌∷◌, ◌++◌, length, slice_index, slice_range, All}
use Rattle.mill_base.specs.declared.points.Box2.{Box2}
use Rattle.mill_cells.specs.Boxes.{box_at, AllInside}
use Rattle.mill_cells.specs.Sorted.{top_at, AreUnder}
use Rattle.mill_cells.specs.Frames.{covers, cell_count, IsFrame}
use Rattle.mill_cells.specs.declared.frame.Frame.{Frame}
use Rattle.mill_cells.specs.declared.grid.Grid.{Grid}

-- the numbers under m that pass the test, ascending
abbrev pub passing : (ℕ → Bool) → ℕ → List ℕ
passing test zero = []
passing test (suc m) = passing test m ++ (if test m then m ∷ [] else [])

-- of the first m boxes, the numbers of those that cover cell k, ascending
abbrev pub numbers : Frame → List Box2 → ℕ → ℕ → List ℕ
numbers f boxes k m = passing (λ i. covers f (box_at boxes i) k) m

-- the numbers of all boxes that cover cell k
abbrev pub numbers_in : Frame → List Box2 → ℕ → List ℕ
numbers_in f boxes k = numbers f boxes k (length boxes)

-- how many entries the cells before k have
abbrev pub start_of : Frame → List Box2 → ℕ → ℕ
start_of f boxes zero = 0
start_of f boxes (suc k) = start_of f boxes k + length (numbers_in f boxes k)

-- each cell's part of the entries is the list of its numbers, and its lid is no lower than their tops
pub record IsGrid (g : Grid) : Type 0 where
  pub frame : IsFrame g.frame
  pub inside : AllInside g.frame.bounds g.boxes.items
  pub count : length g.boxes.items < 2 ^ 32
  pub long : length g.starts.items ≡ cell_count g.frame + 1
  pub starts : (k : ℕ) → k ≤ cell_count g.frame → slice_index g.starts.items k ≡ start_of g.frame g.boxes.items k
  pub size : length g.entries.items ≡ start_of g.frame g.boxes.items (cell_count g.frame)
  pub known : All (λ i. i < length g.boxes.items) g.entries.items
  pub cells : (k : ℕ) → k < cell_count g.frame
      → slice_range g.entries.items (start_of g.frame g.boxes.items k) (start_of g.frame g.boxes.items (k + 1)) ≡ numbers_in g.frame g.boxes.items k
  pub tops : length g.tops.items ≡ length g.boxes.items
  pub lids_long : length g.lids.items ≡ cell_count g.frame
  pub lids : (k : ℕ) → k < cell_count g.frame → AreUnder g.tops.items (top_at g.lids.items k) (numbers_in g.frame g.boxes.items k)
