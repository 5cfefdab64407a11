-- The lids of cells.
use Rattle.std.proofs.Common.{◌≡◌, ℕ, ◌+◌, ◌<◌, ◌≤◌, List, length, get_or, take, subst, arith}
use Rattle.std.specs.Prelude.{slice_index, slice_range}
use Rattle.std.proofs.lemmas.List.Elements.{All-more, All-weaker}
use lib.IntN.{ℤ}
use lib.Signed.{◌≤ℤ◌}
use Rattle.mill_base.specs.declared.points.Box2.{Box2}
use Rattle.mill_cells.specs.Frames.{cell_count}
use Rattle.mill_cells.specs.Grids.{numbers_in, start_of}
use Rattle.mill_cells.specs.declared.frame.Frame.{Frame}
use Rattle.mill_cells.proofs.Placements.{start_mono}
use Rattle.mill_cells.specs.Sorted.{top_at, AreUnder}
use Rattle.mill_cells.specs.inner.Placing.{AreLids}
use Rattle.mill_cells.proofs.BoxLemmas.{le_trans_ℤ}

-- one number more under a higher lid
pub under_more : (tops : List ℤ) (numbers : List ℕ) (k d : ℕ) (lid new : ℤ) → k < length numbers → lid ≤ℤ new → top_at tops (get_or numbers k d) ≤ℤ new
    → AreUnder tops lid (take k numbers) → AreUnder tops new (take (k + 1) numbers)
under_more tops numbers k d lid new less le it h =
    All-more (λ i. top_at tops i ≤ℤ new) numbers k d less
    (All-weaker (λ i. top_at tops i ≤ℤ lid) (λ i. top_at tops i ≤ℤ new) (λ i under. le_trans_ℤ (top_at tops i) lid new under le) (take k numbers) h) it

-- where the boxes are placed, each cell's part is in order and within the entries
pub starts_order : (f : Frame) (boxes : List Box2) (starts : List ℕ) → length starts ≡ cell_count f + 1 → ((k : ℕ) → k ≤ cell_count f → slice_index starts k ≡ start_of f boxes k)
    → (k : ℕ) → k + 1 < length starts → slice_index starts k ≤ slice_index starts (k + 1)
starts_order f boxes starts long is k less = omega (arith, is k (omega arith), is (k + 1) (omega arith), start_mono f boxes k (k + 1) (omega arith))

pub starts_room : (f : Frame) (boxes : List Box2) (starts entries : List ℕ) → length starts ≡ cell_count f + 1 → length entries ≡ start_of f boxes (cell_count f) → ((k : ℕ) → k ≤ cell_count f → slice_index starts k ≡ start_of f boxes k)
    → (k : ℕ) → k < length starts → slice_index starts k ≤ length entries
starts_room f boxes starts entries long size is k less = omega (arith, is k (omega arith), start_mono f boxes k (cell_count f) (omega arith))

-- so the lids are those of the cells
pub lids_placed : (f : Frame) (boxes : List Box2) (starts entries : List ℕ) (tops lids : List ℤ) → ((k : ℕ) → k ≤ cell_count f → slice_index starts k ≡ start_of f boxes k)
    → ((k : ℕ) → k < cell_count f → slice_range entries (start_of f boxes k) (start_of f boxes (k + 1)) ≡ numbers_in f boxes k)
    → length lids ≡ cell_count f → AreLids starts entries tops lids → (k : ℕ) → k < cell_count f → AreUnder tops (top_at lids k) (numbers_in f boxes k)
lids_placed f boxes starts entries tops lids is cells long h k less =
    let part = rw (is k (omega arith), is (k + 1) (omega arith)) at (h k (omega arith)) in
    subst (AreUnder tops (top_at lids k)) (cells k less) part

pub lids_same : (starts starts' entries entries' : List ℕ) (tops tops' lids : List ℤ) → starts ≡ starts' → entries ≡ entries' → tops ≡ tops' → AreLids starts entries tops lids → AreLids starts' entries' tops' lids
lids_same starts starts' entries entries' tops tops' lids p q r h =
    subst (λ (ts : List ℤ). AreLids starts' entries' ts lids) r (subst (λ (ys : List ℕ). AreLids starts' ys tops lids) q (subst (λ (xs : List ℕ). AreLids xs entries tops lids) p h))
