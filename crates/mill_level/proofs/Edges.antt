-- Edges: when two are one, which are the grid's, and their numbers.
use Rattle.std.proofs.Common.{◌≡◌, ℕ, ◌+◌, ◌*◌, ◌≤◌, ◌<◌, true, [], refl, sym, ap, ◌∙◌, mul_comm, arith}
use Rattle.std.proofs.lemmas.Bool.{and_parts, and_from, eqb-true, eq-eqb, ltb-true}
use Rattle.std.proofs.lemmas.Nat.{same_from_place, mul-add-lt}
use Rattle.mill_geom.specs.declared.touch.Axis.{Axis}
use Rattle.mill_geom.specs.declared.touch.Axis.TheVariants.{X, Y}
use Rattle.mill_level.specs.declared.edge.Edge.{Edge}
use Rattle.mill_level.specs.Grids.{Grid, edge, has_edge, is_crossing, same_axis, same_edge, upper_column, upper_row}
use Rattle.mill_level.specs.inner.Maps.{edge_number}

same_made : (i j k l : ℕ) (x y : Axis) → i ≡ k → j ≡ l → x ≡ y → edge i j x ≡ edge k l y
same_made i j k l x y p q r = cc

pub same_parts : (a b : Edge) → a.column ≡ b.column → a.row ≡ b.row → a.axis ≡ b.axis → a ≡ b
same_parts a b p q r = same_made a.column a.row b.column b.row a.axis b.axis p q r

axis_is : (a b : Axis) → same_axis a b ≡ true → a ≡ b
axis_is X X e = refl
axis_is X Y e = cc
axis_is Y X e = cc
axis_is Y Y e = refl

axis_self : (a : Axis) → same_axis a a ≡ true
axis_self X = refl
axis_self Y = refl

pub same_is : (a b : Edge) → same_edge a b ≡ true → a ≡ b
same_is a b e =
    let p = and_parts _ _ e in
    let q = and_parts _ _ p.0 in
    same_parts a b (eqb-true a.column b.column q.0) (eqb-true a.row b.row q.1) (axis_is a.axis b.axis p.1)

pub same_self : (a : Edge) → same_edge a a ≡ true
same_self a = and_from _ _ (and_from _ _ (eq-eqb a.column a.column refl) (eq-eqb a.row a.row refl)) (axis_self a.axis)

pub edge_within : (grid : Grid) (e : Edge) → has_edge grid e ≡ true → (e.column < grid.columns) × (e.row < grid.rows)
edge_within grid e h =
    let p = and_parts _ _ h in
    by e.axis e.column e.row (ltb-true (upper_column e) grid.columns p.0) (ltb-true (upper_row e) grid.rows p.1)
  where
    by : (a : Axis) (i j : ℕ) → upper_column (edge i j a) < grid.columns → upper_row (edge i j a) < grid.rows → (i < grid.columns) × (j < grid.rows)
    by X i j p q = (omega arith, omega arith)
    by Y i j p q = (omega arith, omega arith)

pub crossing_has_edge : (grid : Grid) (e : Edge) → is_crossing grid e ≡ true → has_edge grid e ≡ true
crossing_has_edge grid e h = (and_parts _ _ h).0

-- the numbers of edges along X are below those of edges along Y
number_apart : (c r i j k : ℕ) → i < c → j < r → j * c + i ≡ c * r + k → ⊥
number_apart c r i j k p q e = omega (arith, mul-add-lt j c i r q p)

one_place : (c r i j k l : ℕ) (a b : Axis) → i < c → j < r → k < c → l < r
    → edge_number (record { columns = c; rows = r; blocked = [] }) (edge i j a) ≡ edge_number (record { columns = c; rows = r; blocked = [] }) (edge k l b)
    → edge i j a ≡ edge k l b
one_place c r i j k l X X p q s t e = let same = same_from_place j i l k c p s e in same_parts _ _ same.1 same.0 refl
one_place c r i j k l X Y p q s t e = absurd (number_apart c r i j (k * r + l) p q e)
one_place c r i j k l Y X p q s t e = absurd (number_apart c r k l (i * r + j) s t (sym e))
one_place c r i j k l Y Y p q s t e = let same = same_from_place i j k l r q t (omega arith) in same_parts _ _ same.0 same.1 refl

pub one_number : (grid : Grid) (a b : Edge) → a.column < grid.columns → a.row < grid.rows → b.column < grid.columns → b.row < grid.rows
    → edge_number grid a ≡ edge_number grid b → a ≡ b
one_number grid a b p q s t e = one_place grid.columns grid.rows a.column a.row b.column b.row a.axis b.axis p q s t e

-- the first number of edges along Y is the next after the last of those along X
pub after_last : (grid : Grid) (e : Edge) → e.axis ≡ X → e.column < grid.columns → grid.columns ≤ e.column + 1 → e.row < grid.rows → grid.rows ≤ e.row + 1
    → edge_number grid (edge 0 0 Y) ≡ edge_number grid e + 1
after_last grid e x p q s t = by grid.columns grid.rows e.column e.row p q s t ∙ ap (λ (a : Axis). edge_number grid (edge e.column e.row a) + 1) (sym x)
  where
    by : (c r i j : ℕ) → i < c → c ≤ i + 1 → j < r → r ≤ j + 1 → c * r + (0 * r + 0) ≡ j * c + i + 1
    by c r i j p q s t =
        let rows : r ≡ j + 1 = omega (s, t, arith) in
        let all : c * r ≡ (j + 1) * c = mul_comm c r ∙ ap (λ n. n * c) rows in
        omega (p, q, all, arith)
