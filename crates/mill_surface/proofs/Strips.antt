-- Triangles strip by strip: one strip more, and two ways to say the same points.
use Rattle.std.proofs.Common.{◌≡◌, ℕ, zero, suc, ◌+◌, ◌-◌, ◌<◌, ◌≤◌, List, ◌++◌, get_or, refl, sym, ap, ap₂, ◌∙◌, arith, append_assoc, append-nil}
use Rattle.std.specs.Prelude.{pos}
use Rattle.std.specs.List.{flat_map, range_with_len}
use Rattle.mill_base.specs.declared.motion.Move.{Move}
use Rattle.mill_base.specs.declared.points.Pt3.{Pt3}
use Rattle.mill_base.specs.declared.points.Tri.{Tri}
use Rattle.mill_job.specs.declared.fields.JobFields.{JobFields}
use Rattle.mill_job.specs.Columns.{row_count, column_count}
use Rattle.mill_dexel.specs.Rows.{RowState, uncut_row}
use Rattle.mill_dexel.specs.Stocks.{IsRow, IsStock}
use Rattle.mill_dexel.specs.Tops.{top_point}
use Rattle.mill_dexel.proofs.RowLaws.{row_after-at}
use Rattle.mill_surface.specs.Surfaces.{square_tris, strip_tris, surface_tris, surface_of, point_in}

-- ---- one more

flat_map_more : (f : ℕ → List Tri) (a n j : ℕ) → a + n ≡ j → flat_map f (range_with_len a (suc n)) ≡ flat_map f (range_with_len a n) ++ f j
flat_map_more f a zero j e =
    let here : a ≡ j = omega arith in
    append-nil (f a) ∙ ap f here
flat_map_more f a (suc n) j e =
    ap (λ (tris : List Tri). f a ++ tris) (flat_map_more f (a + 1) n j (omega arith)) ∙ sym (append_assoc (f a) (flat_map f (range_with_len (a + 1) n)) (f j))

-- what a loop has added, and the triangles of its next number
pub added_more : (f : ℕ → List Tri) (old now next : List Tri) (n : ℕ) → now ≡ old ++ flat_map f (range_with_len 0 n) → next ≡ now ++ f n
    → next ≡ old ++ flat_map f (range_with_len 0 (n + 1))
added_more f old now next n so_far e =
    e ∙ ap (λ (tris : List Tri). tris ++ f n) so_far
    ∙ append_assoc old (flat_map f (range_with_len 0 n)) (f n)
    ∙ ap (λ (tris : List Tri). old ++ tris) (sym (flat_map_more f 0 n n (omega arith)) ∙ ap (λ (m : ℕ). flat_map f (range_with_len 0 m)) one_more)
  where
    one_more : suc n ≡ n + 1
    one_more = omega arith

-- ---- the same points give the same triangles

flat_map_same : (f g : ℕ → List Tri) (a n : ℕ) → ((j : ℕ) → a ≤ j → j < a + n → f j ≡ g j) → flat_map f (range_with_len a n) ≡ flat_map g (range_with_len a n)
flat_map_same f g a zero same = refl
flat_map_same f g a (suc n) same =
    ap₂ (λ (xs ys : List Tri). xs ++ ys) (same a (omega arith) (omega arith)) (flat_map_same f g (a + 1) n (λ j from to. same j (omega arith) (omega arith)))

module _ (p q : ℕ → ℕ → Pt3) (rows columns : ℕ) (same : (j i : ℕ) → j < rows → i < columns → p j i ≡ q j i) where
  square_same : (j i : ℕ) → j + 1 < rows → i + 1 < columns → square_tris p j i ≡ square_tris q j i
  square_same j i row column =
      let here = same j i (omega arith) (omega arith) in
      let along = same j (i + 1) (omega arith) column in
      let beyond = same (j + 1) (i + 1) row column in
      let above = same (j + 1) i row (omega arith) in
      cc

  strip_same : (j : ℕ) → j + 1 < rows → strip_tris columns p j ≡ strip_tris columns q j
  unfolding strip_tris
  strip_same j row = flat_map_same (square_tris p j) (square_tris q j) 0 (columns - 1) (λ i from to. square_same j i row (omega arith))

  pub surface_same : surface_tris rows columns p ≡ surface_tris rows columns q
  unfolding surface_tris
  surface_same = flat_map_same (strip_tris columns p) (strip_tris columns q) 0 (rows - 1) (λ j from to. strip_same j (omega arith))

-- ---- the points after a list of moves

-- the rows of a stock have the tops after its moves
point_after : (job : JobFields) (moves : List Move) (rows : List RowState) → IsStock job moves rows → (j i : ℕ) → j < row_count job → i < column_count job
    → point_in job rows j i ≡ top_point job moves j i
point_after job moves rows stock j i row column =
    let is : IsRow job moves j (get_or rows j (uncut_row job j)) = stock.rows_ok j (uncut_row job j) row in
    rw (is.after, row_after-at job j moves i (pos 0) column) refl

pub surface_after : (job : JobFields) (moves : List Move) (rows : List RowState) → IsStock job moves rows → surface_of job (point_in job rows) ≡ surface_of job (top_point job moves)
surface_after job moves rows stock =
    surface_same (point_in job rows) (top_point job moves) (row_count job) (column_count job) (point_after job moves rows stock)
