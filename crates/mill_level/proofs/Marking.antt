-- What setting an edge's mark does.
use Rattle.std.proofs.Common.{◌≡◌, ◌≢◌, ℕ, ◌+◌, ◌*◌, ◌<◌, ◌≤◌, Bool, true, false, not, List, length, get_or, set, refl, sym, ap, subst, arith}
use Rattle.std.specs.Prelude.{◌&&◌, count_by}
use Rattle.std.proofs.lemmas.Bool.{and_from}
use Rattle.std.proofs.lemmas.List.{get_or-set_same, get_or-set_other}
use Rattle.std.proofs.lemmas.List.Sums.{sum_by-set}
use Rattle.std.proofs.lemmas.Nat.{mul-add-lt}
use Rattle.mill_geom.specs.declared.touch.Axis.{Axis}
use Rattle.mill_geom.specs.declared.touch.Axis.TheVariants.{X, Y}
use Rattle.mill_level.specs.declared.edge.Edge.{Edge}
use Rattle.mill_level.specs.declared.grid.LevelMap.{LevelMap}
use Rattle.mill_level.specs.Grids.{Grid, edge, has_edge, same_edge}
use Rattle.mill_level.specs.inner.Maps.{edge_number, grid_of}
use Rattle.mill_level.specs.inner.Trails.{is_passed, mark}
use Rattle.mill_level.proofs.Steps.{one_when}
use Rattle.mill_level.proofs.Edges.{edge_within, one_number, same_is, same_self}

pub is_one : (b : Bool) → 0 < one_when b → b ≡ true
is_one true h = refl
is_one false h = absurd (omega arith)

pub is_none : (b : Bool) → one_when b ≡ 0 → b ≡ false
is_none true h = absurd (omega arith)
is_none false h = refl

pub at_most_one : (b : Bool) → one_when b ≤ 1
at_most_one true = omega arith
at_most_one false = omega arith

pub not_both : (b : Bool) → b ≡ true → b ≡ false → ⊥
not_both b e f = cc

number_in : (c r i j : ℕ) (a : Axis) (blocked : List Bool) → i < c → j < r
    → edge_number (record { columns = c; rows = r; blocked = blocked }) (edge i j a) < 2 * (c * r)
number_in c r i j X blocked p q = omega (arith, mul-add-lt j c i r q p)
number_in c r i j Y blocked p q = omega (arith, mul-add-lt i r j c p q)

pub number_within : (grid : Grid) (e : Edge) → has_edge grid e ≡ true → edge_number grid e < 2 * (grid.columns * grid.rows)
number_within grid e h = let w = edge_within grid e h in number_in grid.columns grid.rows e.column e.row e.axis grid.blocked w.0 w.1

module _ (level : LevelMap) (passed : List Bool) (size : length passed ≡ 2 * (level.columns * level.rows)) where
  abbrev number : Edge → ℕ
  number e = edge_number (grid_of level) e

  pub number_below : (e : Edge) → has_edge (grid_of level) e ≡ true → edge_number (grid_of level) e < length passed
  number_below e h = omega (arith, number_within (grid_of level) e h)

  pub unset : (x : Edge) → has_edge (grid_of level) x ≡ true → is_passed level passed x ≡ false → get_or passed (edge_number (grid_of level) x) false ≡ false
  unset x h off = by (get_or passed (number x) false) refl
    where
      by : (b : Bool) → get_or passed (number x) false ≡ b → b ≡ false
      by true e = absurd (not_both _ (and_from _ _ h e) off)
      by false e = refl

  same_mark : (x e : Edge) → has_edge (grid_of level) x ≡ true → is_passed level passed x ≡ false → x ≡ e
      → mark level (set passed (number x) true) e ≡ mark level passed e + one_when (same_edge x e)
  same_mark x e h off at =
      let set_there : get_or (set passed (number x) true) (number x) false ≡ true = get_or-set_same passed (number x) true false (number_below x h) in
      let now : mark level (set passed (number x) true) x ≡ 1 = ap one_when (and_from _ _ h set_there) in
      let before : mark level passed x ≡ 0 = ap one_when off in
      let one : one_when (same_edge x x) ≡ 1 = ap one_when (same_self x) in
      subst (λ (y : Edge). mark level (set passed (number x) true) y ≡ mark level passed y + one_when (same_edge x y)) at (omega arith)

  other_mark : (x e : Edge) → has_edge (grid_of level) x ≡ true → same_edge x e ≡ false → (b : Bool) → has_edge (grid_of level) e ≡ b
      → one_when (b && get_or (set passed (number x) true) (number e) false) ≡ one_when (b && get_or passed (number e) false)
  other_mark x e h off false has = refl
  other_mark x e h off true has =
      let p = edge_within (grid_of level) x h in
      let q = edge_within (grid_of level) e has in
      let apart : number e ≢ number x = λ same.
      not_both _ (subst (λ (y : Edge). same_edge x y ≡ true) (one_number (grid_of level) x e p.0 p.1 q.0 q.1 (sym same)) (same_self x)) off in
      ap one_when (get_or-set_other passed (number x) (number e) true false apart)

  pub mark_set : (x e : Edge) → has_edge (grid_of level) x ≡ true → is_passed level passed x ≡ false
      → mark level (set passed (edge_number (grid_of level) x) true) e ≡ mark level passed e + one_when (same_edge x e)
  mark_set x e h off = by (same_edge x e) refl
    where
      by : (b : Bool) → same_edge x e ≡ b → mark level (set passed (number x) true) e ≡ mark level passed e + one_when (same_edge x e)
      by true same = same_mark x e h off (same_is x e same)
      by false same =
          let none : one_when (same_edge x e) ≡ 0 = ap one_when same in
          let kept : mark level (set passed (number x) true) e ≡ mark level passed e = other_mark x e h same (has_edge (grid_of level) e) refl in
          omega arith

  -- fewer are left to mark
  pub fewer_left : (x : Edge) → has_edge (grid_of level) x ≡ true → is_passed level passed x ≡ false
      → count_by (λ (b : Bool). not b) (set passed (edge_number (grid_of level) x) true) < count_by (λ (b : Bool). not b) passed
  fewer_left x h off =
      let was : one_when (not (get_or passed (number x) false)) ≡ 1 = ap (λ (b : Bool). one_when (not b)) (unset x h off) in
      omega (arith, sum_by-set (λ (b : Bool). one_when (not b)) passed (number x) true false (number_below x h))
