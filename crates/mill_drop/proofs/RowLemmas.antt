-- The places of a row, and the drop heights at them.
use Rattle.std.proofs.Common.{◌≡◌, ℕ, zero, suc, ◌+◌, ◌*◌, ◌<◌, ◌≤◌, min, List, [], ◌∷◌, ◌++◌, length, take, get_or, refl, sym, ap, ap₂, ◌∙◌, subst, subst₂, arith}
use Rattle.std.specs.Prelude.{nat_abs}
use Rattle.std.specs.List.{AllZip}
use Rattle.std.specs.Int.{div_ceil}
use Rattle.std.proofs.lemmas.Int.{ints}
use Rattle.std.proofs.lemmas.List.{take_all, take_more}
use Rattle.std.proofs.lemmas.Slice.Zip.{all_zipped_more}
use Rattle.std.proofs.Math.Nat.{mod-eq_of_lt, div-eq_of_lt}
use lib.IntN.{ℤ, pos, ◌+ℤ◌, ◌-ℤ◌}
use lib.Signed.{◌≤ℤ◌}
use Rattle.mill_base.specs.declared.limits.TheConstants.{MAX_NODES}
use Rattle.mill_base.specs.Lattices.{lattice_positions, node_count, nodes_of, IsMapLattice}
use Rattle.mill_base.proofs.NodeLemmas.{length-rows, get_or-rows, length-positions, get_or-positions}
use Rattle.mill_base.specs.declared.points.Tri.{Tri}
use Rattle.mill_base.specs.declared.tool.Tool.{Tool}
use Rattle.mill_drop.specs.Drops.{IsDropHeight}
use Rattle.mill_drop.specs.Maps.{AreDropHeights, IsHeightAt}
use Rattle.mill_drop.specs.Paths.{height_at, row_lattice, IsRow}

-- lists whose items go together are equally long, and so are the items of one number
pub zip_length : {A B : Type 0} (R : A → B → Type 0) (xs : List A) (ys : List B) → AllZip R xs ys → length xs ≡ length ys
zip_length R [] [] h = refl
zip_length R [] (y ∷ ys) h = absurd h
zip_length R (x ∷ xs) [] h = absurd h
zip_length R (x ∷ xs) (y ∷ ys) h = ap suc (zip_length R xs ys h.1)

pub zip_at : {A B : Type 0} (R : A → B → Type 0) (xs : List A) (ys : List B) (k : ℕ) (d : A) (e : B) → AllZip R xs ys → k < length xs → R (get_or xs k d) (get_or ys k e)
zip_at R [] ys k d e h inside = absurd (none k inside)
  where
    none : (k : ℕ) → k < 0 → ⊥
    none k h = omega arith
zip_at R (x ∷ xs) [] k d e h inside = absurd h
zip_at R (x ∷ xs) (y ∷ ys) zero d e h inside = h.0
zip_at R (x ∷ xs) (y ∷ ys) (suc k) d e h inside = zip_at R xs ys k d e h.1 (less k (length xs) inside)
  where
    less : (k n : ℕ) → suc k < suc n → k < n
    less k n h = omega arith

-- how many places a row has
along : (x0 x1 : ℤ) → length (lattice_positions x0 x1 (pos 1)) ≡ nat_abs (x1 -ℤ x0) + 1
along x0 x1 = length-positions x0 x1 (pos 1) ∙ each (nat_abs (x1 -ℤ x0))
  where
    each : (n : ℕ) → div_ceil n 1 + 1 ≡ n + 1
    each n = omega arith

across : (y : ℤ) → length (lattice_positions y y (pos 1)) ≡ 1
across y = along y y ∙ ap (λ n. n + 1) none
  where
    none : nat_abs (y -ℤ y) ≡ 0
    none = omega (arith, ints)

pub row_count : (y x0 x1 : ℤ) → node_count (row_lattice y x0 x1) ≡ nat_abs (x1 -ℤ x0) + 1
row_count y x0 x1 = ap₂ (λ (m n : ℕ). m * n) (along x0 x1) (across y) ∙ single (nat_abs (x1 -ℤ x0) + 1)
  where
    single : (n : ℕ) → n * 1 ≡ n
    single n = omega arith

pub row_length : (y x0 x1 : ℤ) → length (nodes_of (row_lattice y x0 x1)) ≡ nat_abs (x1 -ℤ x0) + 1
row_length y x0 x1 = length-rows (lattice_positions x0 x1 (pos 1)) (lattice_positions y y (pos 1)) ∙ row_count y x0 x1

-- and where they are
x_at : (x0 x1 : ℤ) (k : ℕ) → x0 ≤ℤ x1 → k ≤ nat_abs (x1 -ℤ x0) → get_or (lattice_positions x0 x1 (pos 1)) k (pos 0) ≡ x0 +ℤ pos k
x_at x0 x1 k order inside = get_or-positions x0 x1 (pos 1) k order one (subst (λ n. k < n) (sym (along x0 x1)) here) ∙ ap (λ n. x0 +ℤ pos n) (least k (nat_abs (x1 -ℤ x0)) inside)
  where
    one : (pos 1) ≤ℤ pos 1
    one = omega (arith, ints)

    here : k < nat_abs (x1 -ℤ x0) + 1
    here = omega (inside, arith)

    least : (k n : ℕ) → k ≤ n → min (k * 1) n ≡ k
    least k n h = omega arith

y_at : (y : ℤ) → get_or (lattice_positions y y (pos 1)) 0 (pos 0) ≡ y
y_at y = x_at y y 0 level none ∙ still
  where
    level : y ≤ℤ y
    level = omega (arith, ints)

    none : 0 ≤ nat_abs (y -ℤ y)
    none = omega arith

    still : y +ℤ pos 0 ≡ y
    still = omega (arith, ints)

pub row_node : (y x0 x1 : ℤ) (k : ℕ) (d : ℤ × ℤ) → x0 ≤ℤ x1 → k ≤ nat_abs (x1 -ℤ x0) → get_or (nodes_of (row_lattice y x0 x1)) k d ≡ (x0 +ℤ pos k, y)
row_node y x0 x1 k d order inside =
    let xs = lattice_positions x0 x1 (pos 1) in
    let ys = lattice_positions y y (pos 1) in
    let first = x_at x0 x1 k order inside in
    let second = y_at y in
    let here : k < length xs = subst (λ n. k < n) (sym (along x0 x1)) (next k (nat_abs (x1 -ℤ x0)) inside) in
    let within : k < length xs * length ys = subst (λ n. k < length xs * n) (sym (across y)) (single k (length xs) here) in
    let place = ap (λ n. get_or xs n (pos 0)) (mod-eq_of_lt here) ∙ first in
    let row = ap (λ n. get_or ys n (pos 0)) (div-eq_of_lt here) ∙ second in
    get_or-rows xs ys k d (some k (length xs) here) within ∙ (λ i. (place i, row i))
  where
    next : (k n : ℕ) → k ≤ n → k < n + 1
    next k n h = omega arith

    single : (k n : ℕ) → k < n → k < n * 1
    single k n h = omega arith

    some : (k n : ℕ) → k < n → 0 < n
    some k n h = omega arith

-- a row has no more places than a lattice may have nodes
pub row_is_map : (y x0 x1 : ℤ) → IsRow y x0 x1 → IsMapLattice (row_lattice y x0 x1)
row_is_map y x0 x1 h = record {
  lattice_ok = record {
    x0_ok = h.x0_ok;
    x1_ok = h.x1_ok;
    y0_ok = h.y_ok;
    y1_ok = h.y_ok;
    x_order = h.order;
    y_order = omega (arith, ints);
    step_ok = omega (arith, ints);
  };
  few = subst (λ n. n ≤ MAX_NODES) (sym (row_count y x0 x1)) few;
}
  where
    few : nat_abs (x1 -ℤ x0) + 1 ≤ MAX_NODES
    few = let a = h.x0_ok.within in let b = h.x1_ok.within in omega (arith, ints)

-- the drop heights along a row are as many as its places, and each is that of its place
pub heights_count : (tool : Tool) (part : List Tri) (y x0 x1 floor : ℤ) (heights : List ℤ) → AreDropHeights tool part floor (row_lattice y x0 x1) heights → length heights ≡ nat_abs (x1 -ℤ x0) + 1
heights_count tool part y x0 x1 floor heights h = sym (zip_length (IsHeightAt tool part floor) (nodes_of (row_lattice y x0 x1)) heights h) ∙ row_length y x0 x1

pub heights_few : (tool : Tool) (part : List Tri) (y x0 x1 floor : ℤ) (heights : List ℤ) → IsRow y x0 x1 → AreDropHeights tool part floor (row_lattice y x0 x1) heights → length heights < 2097152
heights_few tool part y x0 x1 floor heights row h =
    let a = row.x0_ok.within in
    let b = row.x1_ok.within in
    let e = heights_count tool part y x0 x1 floor heights h in
    omega (arith, ints)

pub is_height : (tool : Tool) (part : List Tri) (y x0 x1 floor : ℤ) (heights : List ℤ) (k : ℕ) → x0 ≤ℤ x1 → AreDropHeights tool part floor (row_lattice y x0 x1) heights → k ≤ nat_abs (x1 -ℤ x0)
    → IsDropHeight tool part (x0 +ℤ pos k) y floor (height_at heights k)
is_height tool part y x0 x1 floor heights k order h inside =
    let nodes = nodes_of (row_lattice y x0 x1) in
    let here : k < length nodes = subst (λ n. k < n) (sym (row_length y x0 x1)) (next k (nat_abs (x1 -ℤ x0)) inside) in
    subst (λ (node : ℤ × ℤ). IsHeightAt tool part floor node (height_at heights k)) (row_node y x0 x1 k (pos 0, pos 0) order inside)
    (zip_at (IsHeightAt tool part floor) nodes heights k (pos 0, pos 0) (pos 0) h here)
  where
    next : (k n : ℕ) → k ≤ n → k < n + 1
    next k n h = omega arith

-- ---- heights one after another

-- one more item of either list
pub zip_more : {A B : Type 0} (R : A → B → Type 0) (xs : List A) (ys zs : List B) (k : ℕ) (d : A) (y : B) → k < length xs → AllZip R (take k xs) ys → R (get_or xs k d) y → zs ≡ ys ++ y ∷ []
    → AllZip R (take (k + 1) xs) zs
zip_more R xs ys zs k d y inside before here more =
    subst₂ (λ us vs. AllZip R us vs) (sym (take_more xs k d inside)) (sym more) (all_zipped_more R (take k xs) ys (get_or xs k d) y before here)

pub zip_all : {A B : Type 0} (R : A → B → Type 0) (xs : List A) (ys : List B) (k : ℕ) → length xs ≤ k → AllZip R (take k xs) ys → AllZip R xs ys
zip_all R xs ys k end h = subst (λ us. AllZip R us ys) (take_all k xs end) h
