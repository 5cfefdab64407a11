-- Arcs, as seen from their centres, and which of them are sound.
use Rattle.std.specs.Prelude.{◌≡◌, Bool, not, ◌&&◌, ◌^◌, ◌≤◌, ℤ, pos, nat_abs, ◌+ℤ◌, ◌-ℤ◌, ◌*ℤ◌, ◌<ℤ◌, ◌≤ℤ◌, int_le, int_lt}
use Rattle.std.specs.Ordering.{int_eq}
use Rattle.mill_base.specs.Numbers.{Within, floor_div, floor_root_of, greater, lesser}
use Rattle.mill_base.specs.declared.unit.Unit.{Unit}
use Rattle.mill_base.specs.declared.unit.Unit.TheVariants.{Hundredth, Thousandth}
use Rattle.mill_arc.specs.Vectors.{ahead, dot}
use Rattle.mill_arc.specs.declared.arc.Arc.{Arc}
use Rattle.mill_arc.specs.declared.arc.Radii.{Radii}
use Rattle.mill_arc.specs.declared.arc.TheConstants.{MAX_END, MAX_START, MAX_TOLERANCE}
use Rattle.mill_arc.specs.declared.vectors.Vector.{Vector}

-- so many nanometres are a unit
abbrev pub nanometres_of : Unit → ℤ
nanometres_of Hundredth = pos 10000
nanometres_of Thousandth = pos 1000

-- the numbers of an arc are in range
pub record IsArc (arc : Arc) : Type 0 where
  pub start_first : Within MAX_START arc.start.first
  pub start_second : Within MAX_START arc.start.second
  pub end_first : Within MAX_END arc.«end».first
  pub end_second : Within MAX_END arc.«end».second
  pub tolerance_least : 1 ≤ arc.tolerance
  pub tolerance_most : arc.tolerance ≤ MAX_TOLERANCE

-- the length of a vector whose square is under 2^64, rounded down. It unfolds only where a proof says so, since its root computes to a term of very many parts
unfoldable pub radius_of : Vector → ℤ
radius_of a = pos (floor_root_of (nat_abs (dot a a)))

-- the lesser and the greater of the radii of start and end, and their mean, rounded down
abbrev pub least_radius : Arc → ℤ
least_radius arc = lesser (radius_of arc.start) (radius_of arc.«end»)

abbrev pub greatest_radius : Arc → ℤ
greatest_radius arc = greater (radius_of arc.start) (radius_of arc.«end»)

abbrev pub mean_radius : Arc → ℤ
mean_radius arc = floor_div (radius_of arc.start +ℤ radius_of arc.«end») 2

-- by how many nanometres the two radii may differ
abbrev pub deviation_of : Arc → ℤ
deviation_of arc = pos arc.tolerance *ℤ nanometres_of arc.unit

-- start and end differ, but lie within half a micrometre along the arc: a control that rounds otherwise would see a whole turn where another sees next to nothing
pub record IsUnclear (arc : Arc) : Type 0 where
  pub differs : ¬ (arc.start ≡ arc.«end»)
  pub onward : (pos 0) <ℤ dot arc.start arc.«end»
  pub close : pos (nat_abs (ahead arc.counterclockwise arc.start arc.«end»)) <ℤ (pos 500 *ℤ greatest_radius arc)

-- start and end lie on one circle of at least a micrometre, as near as the tolerance asks, and are clearly apart or equal
pub record IsSound (arc : Arc) : Type 0 where
  pub short : dot arc.«end» arc.«end» <ℤ pos (2 ^ 62)
  pub some : pos 1000 ≤ℤ least_radius arc
  pub near : (greatest_radius arc -ℤ least_radius arc) ≤ℤ deviation_of arc
  pub twice : greatest_radius arc ≤ℤ (pos 2 *ℤ least_radius arc)
  pub clear : ¬ IsUnclear arc

-- the same, computed
abbrev pub is_near : ℤ → ℤ → ℤ → Bool
is_near m x deviation = int_le (x -ℤ m) deviation && int_le x (pos 2 *ℤ m)

abbrev pub is_ring : ℤ → ℤ → ℤ → Bool
is_ring m x deviation = int_le (pos 1000) m && is_near m x deviation

abbrev pub is_same : Vector → Vector → Bool
is_same a b = int_eq a.first b.first && int_eq a.second b.second

abbrev pub is_unclear : Arc → Bool
is_unclear arc = not (is_same arc.start arc.«end»)
    && (int_lt (pos 0) (dot arc.start arc.«end») && int_lt (pos (nat_abs (ahead arc.counterclockwise arc.start arc.«end»))) (pos 500 *ℤ greatest_radius arc))

abbrev pub is_round : Arc → Bool
is_round arc = is_ring (least_radius arc) (greatest_radius arc) (deviation_of arc) && not (is_unclear arc)

unfoldable pub is_sound : Arc → Bool
is_sound arc = int_lt (dot arc.«end» arc.«end») (pos (2 ^ 62)) && is_round arc

-- two radii are in range
pub record AreRadii (r : Radii) : Type 0 where
  pub start_some : (pos 0) ≤ℤ r.start
  pub start_bound : Within (2 ^ 31) r.start
  pub end_some : (pos 0) ≤ℤ r.«end»
  pub end_bound : Within (2 ^ 31) r.«end»
