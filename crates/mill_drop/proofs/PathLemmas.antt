-- What the path of a tool along a row keeps.
use Rattle.std.proofs.Common.{◌≡◌, ℕ, ◌+◌, ◌-◌, ◌^◌, ◌<◌, ◌≤◌, true, List, [], ◌∷◌, ◌++◌, length, map, take, get_or, refl, sym, ap, ap₂, ◌∙◌, subst, arith, w32, to_z, of_z}
use Rattle.std.specs.Prelude.{nat_abs, int_le}
use Rattle.std.specs.List.{All}
use Rattle.std.proofs.lemmas.Int.{ints, fits_signed_from_abs, to_z-of_z, to_z_pos}
use Rattle.std.proofs.lemmas.List.{map_more}
use Rattle.std.proofs.lemmas.List.Elements.{All-get_or, All-head, All-map, All-same, All-tail, All-weaker}
use lib.IntN.{ℤ, pos, ◌+ℤ◌, ◌-ℤ◌}
use lib.Signed.{◌<ℤ◌, ◌≤ℤ◌}
use Rattle.mill_base.specs.Numbers.{Within}
use Rattle.mill_base.specs.Points.{point_at}
use Rattle.mill_base.specs.declared.limits.TheConstants.{MAX_COORDINATE}
use Rattle.mill_base.specs.declared.lattice.Lattice.{Lattice}
use Rattle.mill_base.specs.declared.points.Pt3.{Pt3}
use Rattle.mill_base.specs.declared.points.Tri.{Tri}
use Rattle.mill_base.specs.declared.tool.Tool.{Tool}
use Rattle.mill_base.proofs.Machine.{stored}
use Rattle.mill_base.proofs.Ranges.{coordinate}
use Rattle.mill_drop.specs.Drops.{IsDropHeight, IsHeightFrom, IsToolHeight}
use Rattle.mill_drop.specs.Maps.{AreDropHeights}
use Rattle.mill_drop.specs.Paths.{row_lattice, height_at, is_kept_at, is_straight, path_places, tip_over, GoesOn, IsLeg, IsLineOver, IsPath, IsRow, IsTip, KeepsTolerance, OnePath}
use Rattle.mill_drop.specs.inner.Rows.{AreHeights}
use Rattle.mill_drop.proofs.Halving.{GoStraight, later_places, path_goes, places_within}
use Rattle.mill_drop.proofs.RowLemmas.{heights_count, heights_few, is_height}
use Rattle.mill_drop.proofs.Straightness.{height_stored, straight_at, first_true, second_true}
use Rattle.mill_drop.proofs.Uniqueness.{one_height, one_map}

-- two numbers of places as differences of their x
apart : (x0 : ℤ) (p q : ℕ) → p ≤ q → pos (q - p) ≡ (x0 +ℤ pos q) -ℤ (x0 +ℤ pos p)
apart x0 p q h = omega (arith, ints)

at_most : (a b : ℤ) → int_le a b ≡ true → a ≤ℤ b
at_most a b h = omega (arith, ints)

-- a place where the line is kept to, and what the line is over
line_over : (y x0 : ℤ) (heights : List ℤ) (tol : ℤ) (p q k : ℕ) → p < k → k < q → is_kept_at heights tol p q k ≡ true
    → IsLineOver (tip_over y x0 heights p) (tip_over y x0 heights q) (x0 +ℤ pos k) (height_at heights k) tol
line_over y x0 heights tol p q k after before kept =
    let steps = apart x0 p q (omega arith) in
    let to_end = apart x0 k q (omega arith) in
    let from_start = apart x0 p k (omega arith) in
    let low = at_most _ _ (first_true _ _ kept) in
    let high = at_most _ _ (second_true _ _ kept) in
    record { over = rw (← steps, ← to_end, ← from_start) low; within = rw (← steps, ← to_end, ← from_start) high }

-- a straight way from place to place is a leg
is_leg : (tool : Tool) (part : List Tri) (y x0 x1 floor tol : ℤ) (heights : List ℤ) (p q : ℕ) → x0 ≤ℤ x1 → AreDropHeights tool part floor (row_lattice y x0 x1) heights
    → p < q → q ≤ nat_abs (x1 -ℤ x0) → is_straight heights tol p q ≡ true → IsLeg tool part y floor tol (tip_over y x0 heights p) (tip_over y x0 heights q)
is_leg tool part y x0 x1 floor tol heights p q order are less inside straight = record {
  onward = omega (arith, ints);
  between = λ x z after before drop.
      let k : ℕ = nat_abs (x -ℤ x0) in
      let place : x0 +ℤ pos k ≡ x = there x x0 p after in
      let k_after : p < k = past x x0 p after in
      let k_before : k < q = short x x0 p q after before in
      let height = subst (λ w. IsDropHeight tool part w y floor (height_at heights k)) place (is_height tool part y x0 x1 floor heights k order are (within k q (nat_abs (x1 -ℤ x0)) k_before inside)) in
      let same = one_height tool part x y floor (height_at heights k) z height drop in
      subst (λ w. IsLineOver (tip_over y x0 heights p) (tip_over y x0 heights q) x w tol) same
      (subst (λ w. IsLineOver (tip_over y x0 heights p) (tip_over y x0 heights q) w (height_at heights k) tol) place
      (line_over y x0 heights tol p q k k_after k_before (straight_at heights tol p q k k_after k_before straight)));
}
  where
    there : (x x0 : ℤ) (p : ℕ) → (x0 +ℤ pos p) <ℤ x → x0 +ℤ pos (nat_abs (x -ℤ x0)) ≡ x
    there x x0 p h = omega (arith, ints)

    past : (x x0 : ℤ) (p : ℕ) → (x0 +ℤ pos p) <ℤ x → p < nat_abs (x -ℤ x0)
    past x x0 p h = omega (arith, ints)

    short : (x x0 : ℤ) (p q : ℕ) → (x0 +ℤ pos p) <ℤ x → x <ℤ (x0 +ℤ pos q) → nat_abs (x -ℤ x0) < q
    short x x0 p q h k = omega (arith, ints)

    within : (k q n : ℕ) → k < q → q ≤ n → k ≤ n
    within k q n h e = omega arith

-- so are the ways over all places, one after another
goes_on : (tool : Tool) (part : List Tri) (y x0 x1 floor tol : ℤ) (heights : List ℤ) (p : ℕ) (places : List ℕ) → x0 ≤ℤ x1 → AreDropHeights tool part floor (row_lattice y x0 x1) heights
    → GoStraight heights tol (nat_abs (x1 -ℤ x0)) p places → All (λ k. k ≤ nat_abs (x1 -ℤ x0)) places
    → GoesOn tool part y x1 floor tol (tip_over y x0 heights p) (map (tip_over y x0 heights) places)
goes_on tool part y x0 x1 floor tol heights p [] order are h inside = ap (λ n. x0 +ℤ pos n) h ∙ end x0 x1 order
  where
    end : (x0 x1 : ℤ) → x0 ≤ℤ x1 → x0 +ℤ pos (nat_abs (x1 -ℤ x0)) ≡ x1
    end x0 x1 h = omega (arith, ints)
goes_on tool part y x0 x1 floor tol heights p (q ∷ places) order are h inside = (
  is_leg tool part y x0 x1 floor tol heights p q order are h.0.0 (All-head (λ k. k ≤ nat_abs (x1 -ℤ x0)) q places inside) h.0.1,
  goes_on tool part y x0 x1 floor tol heights q places order are h.1 (All-tail (λ k. k ≤ nat_abs (x1 -ℤ x0)) q places inside),
)

-- a path keeps to its tolerance
pub path_keeps : (tool : Tool) (part : List Tri) (y x0 x1 floor tol : ℤ) (points : List Pt3) → x0 ≤ℤ x1 → IsPath tool part y x0 x1 floor tol points → KeepsTolerance tool part y x0 x1 floor tol points
path_keeps tool part y x0 x1 floor tol points order path =
    let n : ℕ = nat_abs (x1 -ℤ x0) in
    let heights = path.heights in
    let later = later_places heights tol n in
    let inside = places_within heights tol n in
    record {
      first = tip_over y x0 heights 0;
      rest = map (tip_over y x0 heights) later;
      all = path.places;
      start = first x0;
      legs = goes_on tool part y x0 x1 floor tol heights 0 later order path.are (path_goes heights tol n) (All-tail (λ k. k ≤ n) 0 later inside);
      tips = All-same (IsTip tool part y floor) points (map (tip_over y x0 heights) (path_places heights tol n)) path.places
          (All-map (IsTip tool part y floor) (tip_over y x0 heights) (path_places heights tol n)
          (All-weaker (λ k. k ≤ n) (λ k. IsTip tool part y floor (tip_over y x0 heights k)) (λ k h. record { on_row = refl; height = is_height tool part y x0 x1 floor heights k order path.are h }) (path_places heights tol n) inside));
    }
  where
    first : (x : ℤ) → x +ℤ pos 0 ≡ x
    first x = omega (arith, ints)

-- a row has one path
pub same_path : OnePath
same_path tool part y x0 x1 floor tol a b h k =
    let same = one_map tool part floor (row_lattice y x0 x1) h.heights k.heights h.are k.are in
    h.places ∙ ap (λ (heights : List ℤ). map (tip_over y x0 heights) (path_places heights tol (nat_abs (x1 -ℤ x0)))) same ∙ sym k.places

-- ---- how it is made

-- the heights over a lattice that was stored are those along the row
pub along_row : (tool : Tool) (part : List Tri) (y x0 x1 floor : ℤ) (lattice : Lattice) (heights : List ℤ) → IsRow y x0 x1 → Within MAX_COORDINATE floor
    → lattice ≡ row_lattice (stored w32 y) (stored w32 x0) (stored w32 x1) → AreDropHeights tool part (stored w32 floor) lattice heights → AreDropHeights tool part floor (row_lattice y x0 x1) heights
along_row tool part y x0 x1 floor lattice heights row floor_ok e are =
    let same = rw (coordinate y row.y_ok, coordinate x0 row.x0_ok, coordinate x1 row.x1_ok) at e in
    rw (coordinate floor floor_ok, same) at are

-- they are heights of a row
pub are_heights : (tool : Tool) (part : List Tri) (y x0 x1 floor : ℤ) (heights : List ℤ) → IsRow y x0 x1 → AreDropHeights tool part floor (row_lattice y x0 x1) heights → All (IsHeightFrom tool floor) heights
    → AreHeights heights
are_heights tool part y x0 x1 floor heights row are each = record { each = All-weaker (IsHeightFrom tool floor) IsToolHeight (λ z h. h.in_range) heights each; few = heights_few tool part y x0 x1 floor heights row are }

pub some_heights : (tool : Tool) (part : List Tri) (y x0 x1 floor : ℤ) (heights : List ℤ) → AreDropHeights tool part floor (row_lattice y x0 x1) heights → 0 < length heights
some_heights tool part y x0 x1 floor heights are = let e = heights_count tool part y x0 x1 floor heights are in omega arith

-- its places are places of the row
pub places_inside : (heights : List ℤ) (tol : ℤ) → 0 < length heights → All (λ k. k < length heights) (path_places heights tol (length heights - 1))
places_inside heights tol some = All-weaker (λ k. k ≤ length heights - 1) (λ k. k < length heights) less (path_places heights tol (length heights - 1)) (places_within heights tol (length heights - 1))
  where
    less : (k : ℕ) → k ≤ length heights - 1 → k < length heights
    less k h = omega arith

-- a place's x is stored as it is
pub x_stored : (x0 : ℤ) (k : ℕ) → Within MAX_COORDINATE x0 → k < 2 ^ 21 → to_z w32 (of_z w32 (x0 +ℤ to_z w32 k)) ≡ x0 +ℤ pos k
x_stored x0 k h few = ap (λ (z : ℤ). to_z w32 (of_z w32 (x0 +ℤ z))) (to_z_pos w32 k low) ∙ to_z-of_z w32 (x0 +ℤ pos k) (fits_signed_from_abs w32 (x0 +ℤ pos k) small)
  where
    low : k < 2147483648
    low = omega arith

    small : nat_abs (x0 +ℤ pos k) < 2147483648
    small = let w = h.within in omega (arith, ints)

-- one more tip
pub one_tip : (y x0 : ℤ) (heights : List ℤ) (places : List ℕ) (i : ℕ) (old new : List Pt3) → AreHeights heights → All (λ k. k < length heights) places → Within MAX_COORDINATE x0 → i < length places
    → old ≡ map (tip_over y x0 heights) (take i places)
    → new ≡ old ++ point_at (to_z w32 (of_z w32 (x0 +ℤ to_z w32 (get_or places i 0)))) y (to_z w32 (of_z w32 (height_at heights (get_or places i 0)))) ∷ []
    → new ≡ map (tip_over y x0 heights) (take (i + 1) places)
one_tip y x0 heights places i old new ok inside x0_ok here before more =
    let k = get_or places i 0 in
    let k_ok = All-get_or (λ k. k < length heights) places i 0 here inside in
    let few = ok.few in
    let x = x_stored x0 k x0_ok (omega arith) in
    let z = height_stored heights k ok k_ok in
    more
    ∙ ap₂ (λ (ps : List Pt3) (p : Pt3). ps ++ p ∷ []) before (ap₂ (λ (a b : ℤ). point_at a y b) x z)
    ∙ sym (map_more (tip_over y x0 heights) places i 0 here)

-- the tips over the path's places are the path
pub is_path : (tool : Tool) (part : List Tri) (y x0 x1 floor tol : ℤ) (heights : List ℤ) (places : List ℕ) (points : List Pt3) → AreDropHeights tool part floor (row_lattice y x0 x1) heights
    → places ≡ path_places heights tol (length heights - 1) → points ≡ map (tip_over y x0 heights) places → IsPath tool part y x0 x1 floor tol points
is_path tool part y x0 x1 floor tol heights places points are p t = record {
  heights = heights;
  are = are;
  places = t ∙ ap (λ (ks : List ℕ). map (tip_over y x0 heights) ks) (p ∙ ap (λ n. path_places heights tol n) last);
}
  where
    last : length heights - 1 ≡ nat_abs (x1 -ℤ x0)
    last = let e = heights_count tool part y x0 x1 floor heights are in omega arith
