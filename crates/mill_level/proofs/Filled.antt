-- A map with all its rows and columns is that of the lattice.
use Rattle.std.specs.Prelude.{◌≡◌, ℕ, ◌+◌, ◌*◌, ◌≤◌, ◌<◌, nat_lt, ℤ, pos, ◌+ℤ◌, ◌-ℤ◌, Bool, true, false, if◌then◌else◌, List, ◌++◌, length, slice_index_or, MatchBool, refl}
use Rattle.std.proofs.Common.{arith, ltb-true, sym, subst, ap, ◌∙◌, mul_comm}
use Rattle.std.proofs.lemmas.Bool.{and_parts, false≢true}
use Rattle.std.proofs.lemmas.List.{length-append, get_or_append_left, get_or-append-add}
use Rattle.mill_base.specs.Tools.{ToolGouges}
use Rattle.mill_base.specs.Lattices.{lattice_xs, lattice_ys, IsMapLattice}
use Rattle.mill_base.specs.Points.{point_at}
use Rattle.mill_base.specs.declared.limits.TheConstants.{MAX_NODES}
use Rattle.mill_base.specs.declared.points.Pt3.{Pt3}
use Rattle.mill_base.specs.declared.points.Tri.{Tri}
use Rattle.mill_base.specs.declared.tool.Tool.{Tool}
use Rattle.mill_base.specs.declared.lattice.Lattice.{Lattice}
use Rattle.mill_geom.specs.declared.touch.Axis.{Axis}
use Rattle.mill_geom.specs.declared.touch.Axis.TheVariants.{X, Y}
use Rattle.mill_push.specs.Fibers.{tip_on}
use Rattle.mill_level.specs.declared.edge.Edge.{Edge}
use Rattle.mill_level.specs.declared.grid.LevelMap.{LevelMap}
use Rattle.mill_level.specs.Grids.{Grid, differ, edge, has_edge, is_blocked, is_crossing, is_lower_blocked, upper_column, upper_row}
use Rattle.mill_level.specs.Crossings.{Crossing, HasLastFree, TellsBlocked, moved_along, node_tip, on_the_way}
use Rattle.mill_level.specs.inner.Fibers.{IsPlaceBetween}
use Rattle.mill_level.specs.inner.Maps.{IsMapOf, IsSized, crossing_at, grid_of}
use Rattle.mill_level.proofs.Mapping.{ColumnsDone, PlaceColumn, PlaceRow, TellRow, column_fiber, row_fiber}
use Rattle.mill_level.proofs.Positions.{some_columns, some_rows}
use Rattle.mill_level.proofs.Tables.{IsTable, before}
use Rattle.mill_level.proofs.Ways.{last_free, way_down, way_up}

less : (i n : ℕ) → i + 1 < n → i < n
less i n h = omega (h, arith)

-- the way from the edge's free node
module _ (lattice : Lattice) (z : ℤ) (grid : Grid) (e : Edge) (n : ℕ) where
  way_from_lower : is_lower_blocked grid e ≡ false → on_the_way lattice z grid e n ≡ moved_along e.axis (pos n) (node_tip lattice z e.column e.row)
  way_from_lower h = ap (λ (b : Bool). if b then moved_along e.axis (pos 0 -ℤ pos n) (node_tip lattice z (upper_column e) (upper_row e)) else moved_along e.axis (pos n) (node_tip lattice z e.column e.row)) h

  way_from_upper : is_lower_blocked grid e ≡ true → on_the_way lattice z grid e n ≡ moved_along e.axis (pos 0 -ℤ pos n) (node_tip lattice z (upper_column e) (upper_row e))
  way_from_upper h = ap (λ (b : Bool). if b then moved_along e.axis (pos 0 -ℤ pos n) (node_tip lattice z (upper_column e) (upper_row e)) else moved_along e.axis (pos n) (node_tip lattice z e.column e.row)) h

-- a crossing at the place between its edge's nodes, of which one is free and one is blocked
module _ (tool : Tool) (part : List Tri) (z : ℤ) (lattice : Lattice) (grid : Grid) (c : Crossing) (tip : ℤ → Pt3) (low high place : ℤ)
    (up : (n : ℕ) → moved_along c.edge.axis (pos n) (node_tip lattice z c.edge.column c.edge.row) ≡ tip (low +ℤ pos n))
    (down : (n : ℕ) → moved_along c.edge.axis (pos 0 -ℤ pos n) (node_tip lattice z (upper_column c.edge) (upper_row c.edge)) ≡ tip (high +ℤ (pos 0 -ℤ pos n)))
    (here : point_at c.x c.y z ≡ tip place) where
  abbrev Blocked : ℤ → Type 0
  Blocked v = ToolGouges tool (pos 1) (tip v) part

  crossing_has : IsPlaceBetween Blocked low high place → (a b : Bool) → is_lower_blocked grid c.edge ≡ a → differ a b ≡ true
      → MatchBool a (Blocked low) (¬ Blocked low) → MatchBool b (Blocked high) (¬ Blocked high) → HasLastFree tool part z lattice grid c
  crossing_has between false true e d free held =
      last_free tool part z lattice grid c tip (λ n. low +ℤ pos n) place (way_up Blocked low high place (between.up free held))
      (λ n. way_from_lower lattice z grid c.edge n e ∙ up n) here
  crossing_has between true false e d held free =
      last_free tool part z lattice grid c tip (λ n. high +ℤ (pos 0 -ℤ pos n)) place (way_down Blocked low high place (between.down held free))
      (λ n. way_from_upper lattice z grid c.edge n e ∙ down n) here
  crossing_has between true true e d held also = absurd (false≢true d)
  crossing_has between false false e d free also = absurd (false≢true d)

-- a map whose rows and columns are all done
pub record IsFilled (tool : Tool) (part : List Tri) (z : ℤ) (lattice : Lattice) (level : LevelMap) : Type 0 where
  pub columns : level.columns ≡ length (lattice_xs lattice)
  pub rows : level.rows ≡ length (lattice_ys lattice)
  pub xs : level.xs.items ≡ lattice_xs lattice
  pub ys : level.ys.items ≡ lattice_ys lattice
  pub first : List ℤ
  pub rest : List ℤ
  pub is : level.places.items ≡ first ++ rest
  pub tell : IsTable (TellRow tool part z lattice) level.columns level.rows level.blocked.items
  pub across : IsTable (PlaceRow tool part z lattice) level.columns level.rows first
  pub along : IsTable (PlaceColumn tool part z lattice) level.rows level.columns rest

module _ (tool : Tool) (part : List Tri) (z : ℤ) (lattice : Lattice) (level : LevelMap) (h : IsFilled tool part z lattice level) where
  abbrev grid : Grid
  grid = grid_of level

  sized : IsMapLattice lattice → IsSized level
  sized ok = record {
    some_columns = subst (λ n. 0 < n) (sym h.columns) (some_columns lattice);
    some_rows = subst (λ n. 0 < n) (sym h.rows) (some_rows lattice);
    few = subst (λ n. n * level.rows ≤ MAX_NODES) (sym h.columns) (subst (λ n. length (lattice_xs lattice) * n ≤ MAX_NODES) (sym h.rows) ok.few);
    xs = ap (λ zs. length zs) h.xs ∙ sym h.columns;
    ys = ap (λ zs. length zs) h.ys ∙ sym h.rows;
    blocked = h.tell.size ∙ mul_comm level.rows level.columns;
    places = ap (λ zs. length zs) h.is ∙ length-append h.first h.rest ∙ twice (length h.first) (length h.rest) h.across.size h.along.size;
  }
    where
      twice : (a b : ℕ) → a ≡ level.rows * level.columns → b ≡ level.columns * level.rows → a + b ≡ 2 * (level.columns * level.rows)
      twice a b e f = let g = mul_comm level.rows level.columns in omega (e, f, g, arith)

  told : (i j : ℕ) → i < level.columns → j < level.rows
      → MatchBool (is_blocked grid i j) (ToolGouges tool (pos 1) (node_tip lattice z i j) part) (¬ ToolGouges tool (pos 1) (node_tip lattice z i j) part)
  told i j inside row = h.tell.each i j false inside row (pos 0)

  tells : TellsBlocked tool part z lattice grid
  tells = record { columns = h.columns; rows = h.rows; size = h.tell.size ∙ mul_comm level.rows level.columns; tells = told }

  place_x : (i j : ℕ) → i < level.columns → j < level.rows → PlaceRow tool part z lattice j i (crossing_at level (edge i j X)).x
  place_x i j inside row =
      subst (PlaceRow tool part z lattice j i) (sym (ap (λ zs. slice_index_or zs (j * level.columns + i) (pos 0)) h.is
      ∙ get_or_append_left h.first h.rest (pos 0) (j * level.columns + i) (subst (λ n. j * level.columns + i < n) (sym h.across.size) (before i j level.columns level.rows inside row))))
      (h.across.each i j (pos 0) inside row)

  place_y : (i j : ℕ) → i < level.columns → j < level.rows → PlaceColumn tool part z lattice i j (crossing_at level (edge i j Y)).y
  place_y i j inside row =
      subst (PlaceColumn tool part z lattice i j) (sym (ap (λ zs. slice_index_or zs (level.columns * level.rows + (i * level.rows + j)) (pos 0)) h.is
      ∙ ap (λ n. slice_index_or (h.first ++ h.rest) (n + (i * level.rows + j)) (pos 0)) (sym (h.across.size ∙ mul_comm level.rows level.columns))
      ∙ get_or-append-add h.first h.rest (i * level.rows + j) (pos 0)))
      (h.along.each j i (pos 0) row inside)

  crosses_x : (i j : ℕ) → is_crossing grid (edge i j X) ≡ true → HasLastFree tool part z lattice grid (crossing_at level (edge i j X))
  crosses_x i j e =
      let parts = and_parts (has_edge grid (edge i j X)) (differ (is_blocked grid i j) (is_blocked grid (i + 1) j)) e in
      let ends = and_parts (nat_lt (i + 1) level.columns) (nat_lt j level.rows) parts.0 in
      let next = ltb-true (i + 1) level.columns ends.0 in
      let row = ltb-true j level.rows ends.1 in
      let inside = less i level.columns next in
      crossing_has tool part z lattice grid (crossing_at level (edge i j X)) (tip_on (row_fiber tool part z lattice j))
      (slice_index_or (lattice_xs lattice) i (pos 0)) (slice_index_or (lattice_xs lattice) (i + 1) (pos 0)) (crossing_at level (edge i j X)).x (λ n. refl) (λ n. refl)
      (ap (λ ys. point_at (crossing_at level (edge i j X)).x (slice_index_or ys j (pos 0)) z) h.ys)
      (place_x i j inside row (pos 0) (subst (λ n. i + 1 < n) h.columns next)) (is_blocked grid i j) (is_blocked grid (i + 1) j) refl parts.1
      (told i j inside row) (told (i + 1) j next row)

  crosses_y : (i j : ℕ) → is_crossing grid (edge i j Y) ≡ true → HasLastFree tool part z lattice grid (crossing_at level (edge i j Y))
  crosses_y i j e =
      let parts = and_parts (has_edge grid (edge i j Y)) (differ (is_blocked grid i j) (is_blocked grid i (j + 1))) e in
      let ends = and_parts (nat_lt i level.columns) (nat_lt (j + 1) level.rows) parts.0 in
      let inside = ltb-true i level.columns ends.0 in
      let next = ltb-true (j + 1) level.rows ends.1 in
      let row = less j level.rows next in
      crossing_has tool part z lattice grid (crossing_at level (edge i j Y)) (tip_on (column_fiber tool part z lattice i))
      (slice_index_or (lattice_ys lattice) j (pos 0)) (slice_index_or (lattice_ys lattice) (j + 1) (pos 0)) (crossing_at level (edge i j Y)).y (λ n. refl) (λ n. refl)
      (ap (λ xs. point_at (slice_index_or xs i (pos 0)) (crossing_at level (edge i j Y)).y z) h.xs)
      (place_y i j inside row (pos 0) (subst (λ n. j + 1 < n) h.rows next)) (is_blocked grid i j) (is_blocked grid i (j + 1)) refl parts.1
      (told i j inside row) (told i (j + 1) inside next)

  crosses : (axis : Axis) (i j : ℕ) → is_crossing grid (edge i j axis) ≡ true → HasLastFree tool part z lattice grid (crossing_at level (edge i j axis))
  crosses X i j e = crosses_x i j e
  crosses Y i j e = crosses_y i j e

  pub is_map : IsMapLattice lattice → IsMapOf tool part z lattice level
  is_map ok = record { sized = sized ok; tells = tells; places = λ e crossing. crosses e.axis e.column e.row crossing }

pub filled : (tool : Tool) (part : List Tri) (z : ℤ) (lattice : Lattice) (level : LevelMap) (count : ℕ) → IsMapLattice lattice
    → level.columns ≡ length (lattice_xs lattice) → level.rows ≡ length (lattice_ys lattice) → level.xs.items ≡ lattice_xs lattice → level.ys.items ≡ lattice_ys lattice
    → count ≡ length (lattice_xs lattice) → ColumnsDone tool part z lattice count level.blocked.items level.places.items → IsMapOf tool part z lattice level
filled tool part z lattice level count ok columns rows xs ys all h = is_map tool part z lattice level (record {
  columns = columns;
  rows = rows;
  xs = xs;
  ys = ys;
  first = h.first;
  rest = h.rest;
  is = h.is;
  tell = subst (λ n. IsTable (TellRow tool part z lattice) n level.rows level.blocked.items) (sym columns)
      (subst (λ n. IsTable (TellRow tool part z lattice) (length (lattice_xs lattice)) n level.blocked.items) (sym rows) h.rows.tell);
  across = subst (λ n. IsTable (PlaceRow tool part z lattice) n level.rows h.first) (sym columns)
      (subst (λ n. IsTable (PlaceRow tool part z lattice) (length (lattice_xs lattice)) n h.first) (sym rows) h.rows.place);
  along = subst (λ n. IsTable (PlaceColumn tool part z lattice) n level.columns h.rest) (sym rows)
      (subst (λ n. IsTable (PlaceColumn tool part z lattice) (length (lattice_ys lattice)) n h.rest) (all ∙ sym columns) h.place);
}) ok
