-- The surface of a stock: the points at the tops of neighbouring columns, joined to triangles.
use Rattle.std.specs.Prelude.{◌≡◌, ℕ, ◌+◌, ◌-◌, ◌*◌, ◌<◌, List, [], ◌∷◌, slice_index_or}
use Rattle.std.specs.List.{flat_map, range_with_len}
use Rattle.mill_base.specs.Points.{point_at}
use Rattle.mill_base.specs.declared.limits.TheConstants.{MAX_TRIANGLES}
use Rattle.mill_base.specs.declared.points.Pt3.{Pt3}
use Rattle.mill_base.specs.declared.points.Tri.{Tri}
use Rattle.mill_job.specs.declared.fields.JobFields.{JobFields}
use Rattle.mill_job.specs.Columns.{row_count, column_count, column_x, column_y}
use Rattle.mill_dexel.specs.Rows.{RowState, top_at, uncut_row}

-- ---- by the point at each column's top

-- the two triangles between column i of row j, the next column, and these two in the next row
abbrev pub square_tris : (ℕ → ℕ → Pt3) → ℕ → ℕ → List Tri
square_tris point j i =
    record { a = point j i; b = point j (i + 1); c = point (j + 1) (i + 1) }
    ∷ record { a = point j i; b = point (j + 1) (i + 1); c = point (j + 1) i }
    ∷ []

-- those between row j and the next, column by column
unfoldable pub strip_tris : ℕ → (ℕ → ℕ → Pt3) → ℕ → List Tri
strip_tris columns point j = flat_map (square_tris point j) (range_with_len 0 (columns - 1))

-- those of so many rows and columns, row by row
unfoldable pub surface_tris : ℕ → ℕ → (ℕ → ℕ → Pt3) → List Tri
surface_tris rows columns point = flat_map (strip_tris columns point) (range_with_len 0 (rows - 1))

-- those of a job's columns
abbrev pub surface_of : JobFields → (ℕ → ℕ → Pt3) → List Tri
surface_of job point = surface_tris (row_count job) (column_count job) point

-- ---- their number

-- two for each square of neighbouring columns
abbrev pub triangle_count : JobFields → ℕ
triangle_count job = 2 * ((row_count job - 1) * (column_count job - 1))

-- the surface has this many triangles, which are more than a part may have
pub record HasManyTriangles (job : JobFields) (count : ℕ) : Type 0 where
  pub all : count ≡ triangle_count job
  pub many : MAX_TRIANGLES < count

-- ---- by rows

-- the point of column i of row j at its top in a list of rows, where a row that isn't there would be uncut
abbrev pub point_in : JobFields → List RowState → ℕ → ℕ → Pt3
point_in job rows j i = point_at (column_x job i) (column_y job j) (top_at (slice_index_or rows j (uncut_row job j)).tops i)
