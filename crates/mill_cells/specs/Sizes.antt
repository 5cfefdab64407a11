-- Sizes of cells.
use Rattle.std.specs.Prelude.{ℕ, ◌+◌, ◌*◌, ◌^◌, ◌≤◌, ℤ, pos, ◌<ℤ◌, nat_abs, List, length, sum_by}
use Rattle.mill_base.specs.declared.points.Tri.{Tri}
use Rattle.mill_cells.specs.Boxes.{box_of, bounds_of}
use Rattle.mill_cells.specs.Frames.{frame_over, cell_count, block_of, frame_area}
use Rattle.mill_cells.specs.declared.frame.Frame.{Frame}

-- the cells of this size over the triangles
abbrev pub frame_of : List Tri → ℕ → Frame
frame_of tris size = frame_over (bounds_of tris) size

-- how many cells each triangle's box covers, in all
abbrev pub entry_count : List Tri → ℕ → ℕ
entry_count tris size = sum_by (λ t. frame_area (block_of (frame_of tris size) (box_of t))) tris

-- there are at most 2^20 cells, and cells and entries in them together are at most four for each triangle and four more
pub record IsSmallGrid (tris : List Tri) (size : ℕ) : Type 0 where
  pub few : cell_count (frame_of tris size) ≤ 2 ^ 20
  pub small : cell_count (frame_of tris size) + entry_count tris size ≤ 4 * (length tris + 1)

-- the size is at least 1 and makes at most 2^20 cells
pub record IsCellSize (tris : List Tri) (size : ℤ) : Type 0 where
  pub some : (pos 0) <ℤ size
  pub few : cell_count (frame_of tris (nat_abs size)) ≤ 2 ^ 20
