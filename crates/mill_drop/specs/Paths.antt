-- A path along a row: the places between which a tool goes straight, from drop height to drop height.
use Rattle.std.specs.Prelude.{◌≡◌, ℕ, zero, suc, ◌+◌, ◌-◌, ◌/◌, ◌<◌, ◌==◌, nat_abs, Bool, true, false, ◌&&◌, if◌then◌else◌, ℤ, pos, ◌+ℤ◌, ◌-ℤ◌, ◌*ℤ◌, ◌<ℤ◌, ◌≤ℤ◌, int_le, List, [], ◌∷◌, ◌++◌, map, All, slice_index_or}
use Rattle.std.specs.List.{list_all, range_with_len}
use Rattle.mill_base.specs.Numbers.{Within}
use Rattle.mill_base.specs.Points.{point_at}
use Rattle.mill_base.specs.declared.limits.TheConstants.{MAX_COORDINATE}
use Rattle.mill_base.specs.declared.lattice.Lattice.{Lattice}
use Rattle.mill_base.specs.declared.points.Pt3.{Pt3}
use Rattle.mill_base.specs.declared.points.Tri.{Tri}
use Rattle.mill_base.specs.declared.tool.Tool.{Tool}
use Rattle.mill_drop.specs.Drops.{IsDropHeight}
use Rattle.mill_drop.specs.Maps.{AreDropHeights}
use Rattle.mill_drop.specs.declared.path.TheConstants.{MAX_TOLERANCE}

-- the row at y from x0 to x1 is in range, and its ends are the right way round
pub record IsRow (y x0 x1 : ℤ) : Type 0 where
  pub y_ok : Within MAX_COORDINATE y
  pub x0_ok : Within MAX_COORDINATE x0
  pub x1_ok : Within MAX_COORDINATE x1
  pub order : x0 ≤ℤ x1

-- how far over the drop heights a path may stay
pub record IsTolerance (tol : ℤ) : Type 0 where
  pub some : (pos 0) ≤ℤ tol
  pub within : tol ≤ℤ MAX_TOLERANCE

-- the places of a row at y: one at each whole x from x0 to x1
abbrev pub row_lattice : ℤ → ℤ → ℤ → Lattice
row_lattice y x0 x1 = record { area = record { x0 = x0; y0 = y; x1 = x1; y1 = y }; step = pos 1 }

-- the drop height at place k; places are counted from 0 at x0
abbrev pub height_at : List ℤ → ℕ → ℤ
height_at heights k = slice_index_or heights k (pos 0)

-- a height, times the steps from place p to place q
abbrev pub scaled : ℕ → ℕ → ℤ → ℤ
scaled p q z = z *ℤ pos (q - p)

-- the height at place k of the straight line from the tip at place p to the tip at place q, times the steps from p to q
abbrev pub line_at : List ℤ → ℕ → ℕ → ℕ → ℤ
line_at heights p q k = height_at heights p *ℤ pos (q - k) +ℤ height_at heights q *ℤ pos (k - p)

-- at place k the line is at least at the drop height, and at most the tolerance over it
abbrev pub is_kept_at : List ℤ → ℤ → ℕ → ℕ → ℕ → Bool
is_kept_at heights tol p q k =
    int_le (scaled p q (height_at heights k)) (line_at heights p q k) && int_le (line_at heights p q k) (scaled p q (height_at heights k +ℤ tol))

-- so it is at each place strictly between p and q
abbrev pub is_straight : List ℤ → ℤ → ℕ → ℕ → Bool
is_straight heights tol p q = list_all (is_kept_at heights tol p q) (range_with_len (p + 1) (q - p - 1))

-- the place in the middle between p and q, of two the lower
abbrev pub middle : ℕ → ℕ → ℕ
middle p q = (p + q) / 2

-- the path's places after p, up to q: q alone where the tool may go straight to it, else those up to the middle, and those after it; the first number says how
-- often it may be halved
abbrev pub places_by : ℕ → List ℤ → ℤ → ℕ → ℕ → List ℕ
places_by zero heights tol p q = q ∷ []
places_by (suc n) heights tol p q =
    if is_straight heights tol p q then q ∷ [] else places_by n heights tol p (middle p q) ++ places_by n heights tol (middle p q) q

-- the path's places after p, up to q, halved as often as it takes: a half has fewer places than the whole, and between neighbours the tool may go straight
abbrev pub places_after : List ℤ → ℤ → ℕ → ℕ → List ℕ
places_after heights tol p q = places_by (q - p) heights tol p q

-- the places of the path from place 0 to place n, both among them; one place alone where they are the same
abbrev pub path_places : List ℤ → ℤ → ℕ → List ℕ
path_places heights tol n = 0 ∷ (if n == 0 then [] else places_after heights tol 0 n)

-- the tip at place k
abbrev pub tip_over : ℤ → ℤ → List ℤ → ℕ → Pt3
tip_over y x0 heights k = point_at (x0 +ℤ pos k) y (height_at heights k)

-- these are the points of the path of a tool over a part along the row at y from x0 to x1, by this tolerance
pub record IsPath (tool : Tool) (part : List Tri) (y x0 x1 floor tol : ℤ) (points : List Pt3) : Type 0 where
  pub heights : List ℤ
  pub are : AreDropHeights tool part floor (row_lattice y x0 x1) heights
  pub places : points ≡ map (tip_over y x0 heights) (path_places heights tol (nat_abs (x1 -ℤ x0)))

-- ---- what such a path keeps

-- the straight line from a to b, which stands at a greater x, has at this x a height from z to the tolerance over it
pub record IsLineOver (a b : Pt3) (x z tol : ℤ) : Type 0 where
  pub over : (z *ℤ (b.x -ℤ a.x)) ≤ℤ (a.z *ℤ (b.x -ℤ x) +ℤ b.z *ℤ (x -ℤ a.x))
  pub within : (a.z *ℤ (b.x -ℤ x) +ℤ b.z *ℤ (x -ℤ a.x)) ≤ℤ ((z +ℤ tol) *ℤ (b.x -ℤ a.x))

-- b stands at a greater x than a, and at each whole x strictly between them the line from a to b has a height from the drop height to the tolerance over it
pub record IsLeg (tool : Tool) (part : List Tri) (y floor tol : ℤ) (a b : Pt3) : Type 0 where
  pub onward : a.x <ℤ b.x
  pub between : (x z : ℤ) → a.x <ℤ x → x <ℤ b.x → IsDropHeight tool part x y floor z → IsLineOver a b x z tol

-- from a on through these points, leg by leg, to x1
abbrev pub GoesOn : Tool → List Tri → ℤ → ℤ → ℤ → ℤ → Pt3 → List Pt3 → Type 0
GoesOn tool part y x1 floor tol a [] = a.x ≡ x1
GoesOn tool part y x1 floor tol a (b ∷ points) = IsLeg tool part y floor tol a b × GoesOn tool part y x1 floor tol b points

-- the tip stands over the row, at its drop height
pub record IsTip (tool : Tool) (part : List Tri) (y floor : ℤ) (p : Pt3) : Type 0 where
  pub on_row : p.y ≡ y
  pub height : IsDropHeight tool part p.x y floor p.z

-- the points are tips at their drop heights, the first at x0 and the last at x1, and the line through them has at each whole x a height from the drop height to
-- the tolerance over it
pub record KeepsTolerance (tool : Tool) (part : List Tri) (y x0 x1 floor tol : ℤ) (points : List Pt3) : Type 0 where
  pub first : Pt3
  pub rest : List Pt3
  pub all : points ≡ first ∷ rest
  pub start : first.x ≡ x0
  pub legs : GoesOn tool part y x1 floor tol first rest
  pub tips : All (IsTip tool part y floor) points

-- ---- laws

-- how the places from p to q are found, p being the lower: where the tool may go straight to q they are q alone, else those up to the middle and those after it
pub record AreHalved (heights : List ℤ) (tol : ℤ) (p q : ℕ) : Type 0 where
  pub straight : is_straight heights tol p q ≡ true → places_after heights tol p q ≡ q ∷ []
  pub halved : is_straight heights tol p q ≡ false
      → places_after heights tol p q ≡ places_after heights tol p (middle p q) ++ places_after heights tol (middle p q) q

abbrev pub PathsAreHalved : Type 0
PathsAreHalved = (heights : List ℤ) (tol : ℤ) (p q : ℕ) → p < q → AreHalved heights tol p q

-- a row has one path at most
abbrev pub OnePath : Type 0
OnePath = (tool : Tool) (part : List Tri) (y x0 x1 floor tol : ℤ) (a b : List Pt3) → IsPath tool part y x0 x1 floor tol a → IsPath tool part y x0 x1 floor tol b → a ≡ b
