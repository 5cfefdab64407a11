-- How near the moves over an arc's chords stay to all that an arc may be, whose start and end have two radii: to the ring between these.
use Rattle.std.specs.Prelude.{◌≡◌, true, List, Some, ℤ, pos, nat_abs, ◌+ℤ◌, ◌-ℤ◌, ◌*ℤ◌, ◌<ℤ◌, ◌≤ℤ◌}
use Rattle.std.specs.List.{Contains}
use Rattle.mill_base.specs.Motion.{IsMoment}
use Rattle.mill_base.specs.Numbers.{greater, lesser, square}
use Rattle.mill_base.specs.declared.unit.Unit.{Unit}
use Rattle.mill_arc.specs.Arcs.{IsArc, IsSound, deviation_of, nanometres_of}
use Rattle.mill_arc.specs.Chords.{chords_of}
use Rattle.mill_arc.specs.Places.{nearest, place_of}
use Rattle.mill_arc.specs.Sectors.{Sector, sectors_of}
use Rattle.mill_arc.specs.Vectors.{ahead, dot, minus, plus, times, vector}
use Rattle.mill_arc.specs.declared.arc.Arc.{Arc}
use Rattle.mill_arc.specs.declared.chords.Chord.{Chord}
use Rattle.mill_arc.specs.declared.vectors.Vector.{Vector}

-- a chord of an arc, as a sector
pub record IsChordOf (arc : Arc) (s : Sector) : Type 0 where
  pub arc_ok : IsArc arc
  pub sound : IsSound arc
  pub chords : List Chord
  pub are : chords_of arc ≡ Some chords
  pub stands : Contains (sectors_of arc chords) s

-- the point k/n of a chord as seen from the centre, over n
abbrev pub on_chord : Sector → ℤ → ℤ → Vector
on_chord s k n = plus (times (n -ℤ k) s.from) (times k s.to)

-- the place of a node, in units
abbrev pub place_at : Unit → Vector → Vector → Vector
place_at unit centre node = vector (place_of unit centre.first node.first) (place_of unit centre.second node.second)

-- the tip at the moment k/n of the move from place to place, over n and in nanometres
abbrev pub tip_on : Unit → Vector → Sector → ℤ → ℤ → Vector
tip_on unit centre s k n = times (nanometres_of unit) (plus (times (n -ℤ k) (place_at unit centre s.from)) (times k (place_at unit centre s.to)))

-- a point seen from the centre, over e, as it is in the plane
abbrev pub in_plane : Vector → ℤ → Vector → Vector
in_plane centre e x = plus (times e centre) x

-- x has the direction of l
pub record IsAlong (l x : Vector) : Type 0 where
  pub across : ahead true l x ≡ pos 0
  pub onward : (pos 0) <ℤ dot l x

-- x over e is no nearer to the centre than the nearer one of start and end, and no farther than the farther one
pub record IsInRing (arc : Arc) (e : ℤ) (x : Vector) : Type 0 where
  pub inner : (square e *ℤ lesser (dot arc.start arc.start) (dot arc.«end» arc.«end»)) ≤ℤ dot x x
  pub outer : dot x x ≤ℤ (square e *ℤ greater (dot arc.start arc.start) (dot arc.«end» arc.«end»))

-- the point p over n and the point q over e are at most tenths/10 from each other
pub record IsWithin (tenths n : ℤ) (p : Vector) (e : ℤ) (q : Vector) : Type 0 where
  pub near : (pos 100 *ℤ dot (minus (times e p) (times n q)) (minus (times e p) (times n q))) ≤ℤ square (n *ℤ (e *ℤ tenths))

-- so it is in space, where they have the heights h over n and g over e
pub record IsWithinSpace (tenths n : ℤ) (p : Vector) (h e : ℤ) (q : Vector) (g : ℤ) : Type 0 where
  pub near : (pos 100 *ℤ (dot (minus (times e p) (times n q)) (minus (times e p) (times n q)) +ℤ square (e *ℤ h -ℤ n *ℤ g))) ≤ℤ square (n *ℤ (e *ℤ tenths))

-- the tolerance and 1.9 units, in tenths of a nanometre, and the tolerance and 2 units
abbrev pub plane_reach : Arc → ℤ
plane_reach arc = nanometres_of arc.unit *ℤ (pos 10 *ℤ pos arc.tolerance +ℤ pos 19)

abbrev pub space_reach : Arc → ℤ
space_reach arc = nanometres_of arc.unit *ℤ (pos 10 *ℤ pos arc.tolerance +ℤ pos 20)

-- each moment has its points: those of the ring in the direction of the chord's point are within the tolerance and 1.9 units of it
abbrev pub MomentIsNear : Type 0
MomentIsNear = (arc : Arc) (s : Sector) (centre x : Vector) (k n e : ℤ) → IsChordOf arc s → IsMoment k n → (pos 0) <ℤ e → IsAlong (on_chord s k n) x → IsInRing arc e x
    → IsWithin (plane_reach arc) n (tip_on arc.unit centre s k n) e (in_plane centre e x)

-- and within the tolerance and 2 units in space, where the third axis stays at this height, in nanometres
abbrev pub MomentIsNearInSpace : Type 0
MomentIsNearInSpace = (arc : Arc) (s : Sector) (centre x : Vector) (height k n e : ℤ) → IsChordOf arc s → IsMoment k n → (pos 0) <ℤ e → IsAlong (on_chord s k n) x → IsInRing arc e x
    → IsWithinSpace (space_reach arc) n (tip_on arc.unit centre s k n) (n *ℤ (nanometres_of arc.unit *ℤ nearest height (nat_abs (nanometres_of arc.unit)))) e (in_plane centre e x) (e *ℤ height)

-- a moment of a chord whose point has the direction of x
pub record HasMoment (s : Sector) (x : Vector) : Type 0 where
  pub k : ℤ
  pub n : ℤ
  pub moment : IsMoment k n
  pub along : IsAlong (on_chord s k n) x

-- each point of a chord's sector has its moment
abbrev pub PointHasMoment : Type 0
PointHasMoment = (arc : Arc) (s : Sector) (x : Vector) → IsChordOf arc s → (pos 0) ≤ℤ ahead arc.counterclockwise s.from x → (pos 0) ≤ℤ ahead arc.counterclockwise x s.to → (pos 0) <ℤ dot x x
    → HasMoment s x

-- x over e is at most the deviation, 1.24 units and 3 nanometres from the chord's point k/n; and its height g over e is at most half a unit from that of the move from one height to
-- the other, which are in units
pub record IsBeside (arc : Arc) (s : Sector) (from to k n e : ℤ) (x : Vector) (g : ℤ) : Type 0 where
  pub near : (pos 10000 *ℤ dot (minus (times e (on_chord s k n)) (times n x)) (minus (times e (on_chord s k n)) (times n x)))
      ≤ℤ square (n *ℤ (e *ℤ ((pos 100 *ℤ deviation_of arc +ℤ pos 124 *ℤ nanometres_of arc.unit) +ℤ pos 300)))
  pub level : (pos 4 *ℤ square (e *ℤ (nanometres_of arc.unit *ℤ ((n -ℤ k) *ℤ from +ℤ k *ℤ to)) -ℤ n *ℤ g)) ≤ℤ square (n *ℤ (e *ℤ nanometres_of arc.unit))

-- such a point of a helix is within the tolerance and 2 units of the tip in space
abbrev pub HelixIsNear : Type 0
HelixIsNear = (arc : Arc) (s : Sector) (centre x : Vector) (from to g k n e : ℤ) → IsChordOf arc s → IsMoment k n → (pos 0) <ℤ e → IsBeside arc s from to k n e x g
    → IsWithinSpace (space_reach arc) n (tip_on arc.unit centre s k n) (nanometres_of arc.unit *ℤ ((n -ℤ k) *ℤ from +ℤ k *ℤ to)) e (in_plane centre e x) g
