-- How many triangles a surface has.
use Rattle.std.proofs.Common.{◌≡◌, ℕ, zero, suc, ◌+◌, ◌-◌, ◌*◌, List, length, refl, sym, ap, ap₂, ◌∙◌, arith, length-append, mul-suc, mul-zero, mul_comm, mul_assoc}
use Rattle.std.specs.List.{flat_map, range_with_len}
use Rattle.mill_base.specs.declared.points.Pt3.{Pt3}
use Rattle.mill_base.specs.declared.points.Tri.{Tri}
use Rattle.mill_job.specs.declared.fields.JobFields.{JobFields}
use Rattle.mill_job.specs.Columns.{row_count, column_count}
use Rattle.mill_surface.specs.Surfaces.{square_tris, strip_tris, surface_tris, surface_of, triangle_count}

-- as many as each number has, for each number
length-each : (f : ℕ → List Tri) (k a n : ℕ) → ((j : ℕ) → length (f j) ≡ k) → length (flat_map f (range_with_len a n)) ≡ k * n
length-each f k a zero each = sym (mul-zero k)
length-each f k a (suc n) each =
    length-append (f a) (flat_map f (range_with_len (a + 1) n)) ∙ ap₂ (λ (x y : ℕ). x + y) (each a) (length-each f k (a + 1) n each) ∙ turned k (k * n) ∙ sym (mul-suc k n)
  where
    turned : (x y : ℕ) → x + y ≡ y + x
    turned x y = omega arith

length-strip : (columns : ℕ) (point : ℕ → ℕ → Pt3) (j : ℕ) → length (strip_tris columns point j) ≡ 2 * (columns - 1)
unfolding strip_tris
length-strip columns point j = length-each (square_tris point j) 2 0 (columns - 1) (λ i. refl)

length-surface_tris : (rows columns : ℕ) (point : ℕ → ℕ → Pt3) → length (surface_tris rows columns point) ≡ 2 * ((rows - 1) * (columns - 1))
unfolding surface_tris
length-surface_tris rows columns point =
    length-each (strip_tris columns point) (2 * (columns - 1)) 0 (rows - 1) (length-strip columns point)
    ∙ mul_assoc 2 (columns - 1) (rows - 1) ∙ ap (λ (n : ℕ). 2 * n) (mul_comm (columns - 1) (rows - 1))

pub length-surface : (job : JobFields) (point : ℕ → ℕ → Pt3) → length (surface_of job point) ≡ triangle_count job
length-surface job point = length-surface_tris (row_count job) (column_count job) point
