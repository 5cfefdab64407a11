-- The positions of a lattice, and its nodes in a row and in a column.
use Rattle.std.specs.Prelude.{◌≡◌, ℕ, ◌+◌, ◌*◌, ◌≤◌, ◌<◌, nat_abs, ℤ, pos, ◌+ℤ◌, ◌-ℤ◌, ◌<ℤ◌, ◌≤ℤ◌, List, [], ◌∷◌, ◌++◌, length, slice_index_or}
use Rattle.std.specs.Int.{div_ceil}
use Rattle.std.proofs.Common.{arith, min, take, sym, subst, ap, ◌∙◌}
use Rattle.std.proofs.Math.Nat.{mul-le-mul_right, mod-eq_of_lt, mul-div_cancel}
use Rattle.std.proofs.lemmas.Grind.{div_ceil_times}
use Rattle.std.proofs.lemmas.Int.{ints}
use Rattle.std.proofs.lemmas.List.{get_or_default, take_more}
use Rattle.mill_base.specs.Lattices.{lattice_positions, lattice_xs, lattice_ys, nodes_of, node_at, IsMapLattice}
use Rattle.mill_base.specs.Numbers.{Within}
use Rattle.mill_base.specs.declared.lattice.Lattice.{Lattice}
use Rattle.mill_base.specs.declared.limits.TheConstants.{MAX_COORDINATE}
use Rattle.mill_base.proofs.NodeLemmas.{length-rows, get_or-rows, length-positions, get_or-positions, position_within}
use Rattle.mill_level.specs.inner.Fibers.{ArePositions}

module _ (lo hi step : ℤ) where
  abbrev positions : List ℤ
  positions = lattice_positions lo hi step

  abbrev span : ℕ
  span = nat_abs (hi -ℤ lo)

  pub some_positions : 0 < length positions
  some_positions = subst (λ n. 0 < n) (sym (length-positions lo hi step)) (more (div_ceil span (nat_abs step)))
    where
      more : (n : ℕ) → 0 < n + 1
      more n = omega arith

  module _ (order : lo ≤ℤ hi) (some : (pos 1) ≤ℤ step) where
    at : (k : ℕ) (v : ℤ) → k < length positions → slice_index_or positions k v ≡ lo +ℤ pos (min (k * nat_abs step) span)
    at k v inside = get_or_default positions k v (pos 0) inside ∙ get_or-positions lo hi step k order some inside

    -- a position before the last is a whole number of steps from the first
    stepped : (i j : ℕ) → i < j → j < length positions → min (i * nat_abs step) span < min (j * nat_abs step) span
    stepped i j less inside =
        let s : ℕ = nat_abs step in
        let least : 0 < s = positive step some in
        let long = div_ceil_times span s least in
        let within : j < div_ceil span s + 1 = subst (λ n. j < n) (length-positions lo hi step) inside in
        let up : (i + 1) * s ≤ j * s = mul-le-mul_right s (next i j less) in
        let last : (i + 1) * s ≤ div_ceil span s * s = mul-le-mul_right s (further i j (div_ceil span s) less within) in
        rises i s span (j * s) (div_ceil span s * s) least up last long.1
      where
        positive : (z : ℤ) → (pos 1) ≤ℤ z → 0 < nat_abs z
        positive z h = omega (h, arith, ints)

        next : (i j : ℕ) → i < j → i + 1 ≤ j
        next i j h = omega (h, arith)

        further : (i j n : ℕ) → i < j → j < n + 1 → i + 1 ≤ n
        further i j n h e = omega (h, e, arith)

        rises : (i s l m n : ℕ) → 0 < s → (i + 1) * s ≤ m → (i + 1) * s ≤ n → n < l + s → min (i * s) l < min m l
        rises i s l m n h up last long = omega (h, up, last, long, arith)

    pub positions_rise : (i j : ℕ) (v : ℤ) → i < j → j < length positions → slice_index_or positions i v <ℤ slice_index_or positions j v
    positions_rise i j v less inside =
        subst (λ z. z <ℤ slice_index_or positions j v) (sym (at i v (before i j (length positions) less inside)))
        (subst (λ z. (lo +ℤ pos (min (i * nat_abs step) span)) <ℤ z) (sym (at j v inside)) (more lo _ _ (stepped i j less inside)))
      where
        before : (i j n : ℕ) → i < j → j < n → i < n
        before i j n h e = omega (h, e, arith)

        more : (a : ℤ) (m n : ℕ) → m < n → (a +ℤ pos m) <ℤ (a +ℤ pos n)
        more a m n h = omega (h, arith, ints)

    pub are_positions : Within MAX_COORDINATE lo → Within MAX_COORDINATE hi → ArePositions positions
    are_positions low high = record {
      some = some_positions;
      within = λ k v inside. subst (Within MAX_COORDINATE) (sym (at k v inside)) (position_within lo hi (k * nat_abs step) low high order);
      rising = positions_rise;
    }

pub xs_are_positions : (lattice : Lattice) → IsMapLattice lattice → ArePositions (lattice_xs lattice)
xs_are_positions lattice h = are_positions lattice.area.x0 lattice.area.x1 lattice.step h.lattice_ok.x_order h.lattice_ok.step_ok h.lattice_ok.x0_ok h.lattice_ok.x1_ok

pub ys_are_positions : (lattice : Lattice) → IsMapLattice lattice → ArePositions (lattice_ys lattice)
ys_are_positions lattice h = are_positions lattice.area.y0 lattice.area.y1 lattice.step h.lattice_ok.y_order h.lattice_ok.step_ok h.lattice_ok.y0_ok h.lattice_ok.y1_ok

module _ (lattice : Lattice) where
  abbrev columns : ℕ
  columns = length (lattice_xs lattice)

  abbrev rows : ℕ
  rows = length (lattice_ys lattice)

  pub some_columns : 0 < columns
  some_columns = some_positions lattice.area.x0 lattice.area.x1 lattice.step

  pub some_rows : 0 < rows
  some_rows = some_positions lattice.area.y0 lattice.area.y1 lattice.step

  -- the first node of each row, and each node of the first row, is one of them
  row_starts : (row : ℕ) → row < rows → row * columns < columns * rows
  row_starts row inside = starts columns row rows some_columns inside
    where
      starts : (n row m : ℕ) → 0 < n → row < m → row * n < n * m
      starts n row m some h = let k : (row + 1) * n ≤ m * n = mul-le-mul_right n (next row m h) in omega (some, k, arith)
        where
          next : (i j : ℕ) → i < j → i + 1 ≤ j
          next i j h = omega (h, arith)

  row_runs : (column : ℕ) → column < columns → column < columns * rows
  row_runs column inside = runs columns column rows some_rows inside
    where
      runs : (n k m : ℕ) → 0 < m → k < n → k < n * m
      runs n k m some h = let e : 1 * n ≤ m * n = mul-le-mul_right n some in omega (h, e, arith)

  pub is_node : (k n : ℕ) → n ≡ columns → k < rows → k * n < length (nodes_of lattice)
  is_node k n long inside =
      subst (λ m. k * m < length (nodes_of lattice)) (sym long) (subst (λ m. k * columns < m) (sym (length-rows (lattice_xs lattice) (lattice_ys lattice))) (row_starts k inside))

  pub is_node_of_first : (k : ℕ) → k < columns → k < length (nodes_of lattice)
  is_node_of_first k inside = subst (λ m. k < m) (sym (length-rows (lattice_xs lattice) (lattice_ys lattice))) (row_runs k inside)

  pub node_x : (k : ℕ) → k < columns → (node_at lattice k).0 ≡ slice_index_or (lattice_xs lattice) k (pos 0)
  node_x k inside =
      ap (λ (node : ℤ × ℤ). node.0) (get_or-rows (lattice_xs lattice) (lattice_ys lattice) k (pos 0, pos 0) some_columns (row_runs k inside))
      ∙ ap (λ n. slice_index_or (lattice_xs lattice) n (pos 0)) (mod-eq_of_lt inside)

  pub node_y : (k n : ℕ) → n ≡ columns → k < rows → (node_at lattice (k * n)).1 ≡ slice_index_or (lattice_ys lattice) k (pos 0)
  node_y k n long inside =
      ap (λ m. (node_at lattice (k * m)).1) long
      ∙ ap (λ (node : ℤ × ℤ). node.1) (get_or-rows (lattice_xs lattice) (lattice_ys lattice) (k * columns) (pos 0, pos 0) some_columns (row_starts k inside))
      ∙ ap (λ n. slice_index_or (lattice_ys lattice) n (pos 0)) (mul-div_cancel k some_columns)

-- the first ones of a list, and one more
pub one_taken : (xs done later : List ℤ) (k : ℕ) (x : ℤ) → k < length xs → done ≡ take k xs → later ≡ done ++ x ∷ [] → x ≡ slice_index_or xs k (pos 0) → later ≡ take (k + 1) xs
one_taken xs done later k x inside so_far is here = is ∙ ap (λ zs. zs ++ x ∷ []) so_far ∙ ap (λ z. take k xs ++ z ∷ []) here ∙ sym (take_more xs k (pos 0) inside)
