-- Triangles and tops in range, and points as they are read.
use Rattle.std.proofs.Common.{◌≡◌, ◌⊎◌, ◌∙◌, ℕ, ◌<◌, inl, inr, sym, ap, subst, length, get_or, arith}
use Rattle.std.specs.Prelude.{ℤ, pos, List, [], ◌∷◌, ◌++◌, All, Contains}
use Rattle.std.proofs.lemmas.List.{get_or_default}
use Rattle.std.proofs.lemmas.List.Elements.{Contains-push_cases}
use Rattle.mill_base.specs.Points.{point_at}
use Rattle.mill_base.specs.Ranges.{TriInUnitRange, TrisInUnitRange}
use Rattle.mill_base.specs.declared.points.Tri.{Tri}
use Rattle.mill_base.specs.declared.unit.Unit.{Unit}
use Rattle.mill_job.specs.declared.fields.JobFields.{JobFields}
use Rattle.mill_job.specs.Columns.{column_count, column_x, column_y}
use Rattle.mill_job.specs.Jobs.{IsFrom}
use Rattle.mill_dexel.specs.Rows.{RowState, IsRowOf, uncut_row}
use Rattle.mill_surface.specs.Surfaces.{point_in}

one_more_tri : (unit : Unit) (tris : List Tri) (tri : Tri) → TrisInUnitRange unit tris → TriInUnitRange unit tri → TrisInUnitRange unit (tris ++ tri ∷ [])
one_more_tri unit tris tri all one = λ other member. by other (Contains-push_cases tris tri other member)
  where
    by : (other : Tri) → Contains tris other ⊎ (tri ≡ other) → TriInUnitRange unit other
    by other (inl before) = all other before
    by other (inr here) = subst (TriInUnitRange unit) here one

-- two triangles more
pub two_more_tris : (unit : Unit) (tris next last : List Tri) (s t : Tri) → next ≡ tris ++ s ∷ [] → last ≡ next ++ t ∷ []
    → TrisInUnitRange unit tris → TriInUnitRange unit s → TriInUnitRange unit t → TrisInUnitRange unit last
two_more_tris unit tris next last s t first second all s_ok t_ok =
    let one : TrisInUnitRange unit next = subst (TrisInUnitRange unit) (sym first) (one_more_tri unit tris s all s_ok) in
    subst (TrisInUnitRange unit) (sym second) (one_more_tri unit next t one t_ok)

-- a row that is read has a top in each column
pub top_there : (job : JobFields) (rows : List RowState) (j i : ℕ) (r : RowState) (tops : List ℤ) → All (IsRowOf job) rows → j < length rows → r ≡ get_or rows j r → tops ≡ r.tops
    → i < column_count job → i < length tops
top_there job rows j i r tops all there read same inside =
    let is : IsRowOf job r = subst (IsRowOf job) (sym read) (all j r there) in
    subst (λ (ts : List ℤ). i < length ts) (sym same) (omega (arith, is.columns, inside))

-- a top that is read from a row stays from the floor to the uncut stock's top
pub top_in_stock : (job : JobFields) (rows : List RowState) (j i : ℕ) (r : RowState) (tops : List ℤ) → All (IsRowOf job) rows → j < length rows → r ≡ get_or rows j r → tops ≡ r.tops
    → i < column_count job → IsFrom job.floor job.top (get_or tops i (pos 0))
top_in_stock job rows j i r tops all there read same inside =
    let is : IsRowOf job r = subst (IsRowOf job) (sym read) (all j r there) in
    subst (λ (ts : List ℤ). IsFrom job.floor job.top (get_or ts i (pos 0))) (sym same) (is.in_stock i (pos 0) (omega (arith, is.columns, inside)))

-- the point at a column's top, by what is read of it
pub point_read : (job : JobFields) (rows : List RowState) (j i : ℕ) (r : RowState) (tops : List ℤ) (x y : ℤ) → j < length rows → r ≡ get_or rows j r → tops ≡ r.tops
    → x ≡ column_x job i → y ≡ column_y job j → point_at x y (get_or tops i (pos 0)) ≡ point_in job rows j i
point_read job rows j i r tops x y there read same x_is y_is =
    let tops_are = same ∙ ap (λ (row : RowState). row.tops) (read ∙ get_or_default rows j r (uncut_row job j) there) in
    λ t. point_at (x_is t) (y_is t) (get_or (tops_are t) i (pos 0))
