-- The numbers of a sound arc, and its start and end as nodes.
use Rattle.std.specs.Prelude.{◌≡◌, ℕ, ◌^◌, ◌≤◌, ℤ, pos, ◌+ℤ◌, ◌-ℤ◌, ◌*ℤ◌, ◌<ℤ◌, ◌≤ℤ◌}
use Rattle.std.proofs.Common.{arith}
use Rattle.std.proofs.lemmas.Int.{ints}
use Rattle.mill_base.proofs.Divisions.{floor_div_high, floor_div_low}
use Rattle.mill_base.proofs.Extremes.{greater_least, greater_left, greater_right, lesser_left, lesser_right}
use Rattle.mill_base.specs.Numbers.{floor_div, greater, lesser, square}
use Rattle.mill_base.specs.declared.unit.Unit.{Unit}
use Rattle.mill_base.specs.declared.unit.Unit.TheVariants.{Hundredth, Thousandth}
use Rattle.mill_arc.proofs.NodeCerts.{root_less, square_order}
use Rattle.mill_arc.proofs.Nodes.{IsRootOf, root_of_is}
use Rattle.mill_base.proofs.Integers.{sq-ℤ}
use Rattle.mill_arc.proofs.RingCerts.{room_order}
use Rattle.mill_arc.proofs.Roots.{square_least, square_most, start_short}
use Rattle.mill_arc.specs.Arcs.{IsArc, IsSound, deviation_of, greatest_radius, least_radius, mean_radius, nanometres_of, radius_of}
use Rattle.mill_arc.specs.Chords.{end_of, start_of, turn_of}
use Rattle.mill_arc.specs.Vectors.{dot}
use Rattle.mill_arc.specs.declared.arc.Arc.{Arc}
use Rattle.mill_arc.specs.declared.arc.TheConstants.{MAX_START, MAX_TOLERANCE}
use Rattle.mill_arc.specs.declared.vectors.Vector.{Vector}
use Rattle.mill_arc.specs.inner.Nodes.{IsNode, IsPart, IsRing}

through : (a b c : ℤ) → a ≤ℤ b → b ≤ℤ c → a ≤ℤ c
through a b c h k = omega (arith, ints)

up_to : (a b : ℤ) → a <ℤ b → a ≤ℤ b
up_to a b h = omega (arith, ints)

pub radius_is : (v : Vector) → dot v v <ℤ pos (2 ^ 62) → IsRootOf (dot v v) (radius_of v)
unfolding radius_of
radius_is v short = root_of_is (dot v v) (square_least v) (wider (dot v v) short)
  where
    wider : (a : ℤ) → a <ℤ pos (2 ^ 62) → a <ℤ pos (2 ^ 64)
    wider a h = omega (arith, ints)

-- a node whose radius is its length, rounded down
whole_node : (m x r : ℤ) (v : Vector) → pos 1000 ≤ℤ m → m ≤ℤ r → r ≤ℤ x → IsRootOf (dot v v) r → IsNode m x (record { at = v; radius = r })
whole_node m x r v some least most root = record {
  least = least;
  most = most;
  inner = through _ _ _ (square_order (r -ℤ pos 1) r (omega (arith, ints)) (omega (arith, ints))) root.below;
  outer = through _ _ _ (up_to _ _ root.above) (square_order (r +ℤ pos 1) (r +ℤ pos 2) (omega (arith, ints)) (omega (arith, ints)));
}

-- ---- how great the radii are

start_radius : (arc : Arc) → IsArc arc → radius_of arc.start ≤ℤ pos 1854100000
start_radius arc h =
    let one = square_most arc.start.first MAX_START h.start_first.within in
    let two = square_most arc.start.second MAX_START h.start_second.within in
    let root = radius_is arc.start (start_short arc h) in
    up_to _ _ (root_less (radius_of arc.start) (pos 1854100000) (omega (arith, ints)) (by (arc.start.first *ℤ arc.start.first) (arc.start.second *ℤ arc.start.second) _ one two root.below))
  where
    by : (a b c : ℤ) → a ≤ℤ (pos MAX_START *ℤ pos MAX_START) → b ≤ℤ (pos MAX_START *ℤ pos MAX_START) → c ≤ℤ (a +ℤ b) → c <ℤ (pos 1854100000 *ℤ pos 1854100000)
    by a b c p q r = omega (arith, ints)

pub deviation_most : (arc : Arc) → IsArc arc → deviation_of arc ≤ℤ pos 1000000
deviation_most arc h = by arc.unit arc.tolerance h.tolerance_most
  where
    by : (u : Unit) (t : ℕ) → t ≤ MAX_TOLERANCE → (pos t *ℤ nanometres_of u) ≤ℤ pos 1000000
    by Hundredth t h = omega (arith, ints)
    by Thousandth t h = omega (arith, ints)

pub deviation_least : (arc : Arc) → (pos 0) ≤ℤ deviation_of arc
deviation_least arc = by arc.unit arc.tolerance
  where
    by : (u : Unit) (t : ℕ) → (pos 0) ≤ℤ (pos t *ℤ nanometres_of u)
    by Hundredth t = omega (arith, ints)
    by Thousandth t = omega (arith, ints)

mean_low : (a b : ℤ) → (pos 2 *ℤ floor_div (a +ℤ b) 2) ≤ℤ (a +ℤ b)
mean_low a b = floor_div_low (a +ℤ b) 2 (omega (arith, ints))

mean_high : (a b : ℤ) → (a +ℤ b) <ℤ (pos 2 *ℤ floor_div (a +ℤ b) 2 +ℤ pos 2)
mean_high a b = floor_div_high (a +ℤ b) 2 (omega (arith, ints))

-- the lesser, the greater and the mean of two numbers
record AreOf (a b m x r : ℤ) : Type 0 where
  low_a : m ≤ℤ a
  low_b : m ≤ℤ b
  high_a : a ≤ℤ x
  high_b : b ≤ℤ x
  sum : a +ℤ b ≡ m +ℤ x
  mean_below : (pos 2 *ℤ r) ≤ℤ (a +ℤ b)
  mean_above : (a +ℤ b) <ℤ (pos 2 *ℤ r +ℤ pos 2)

sum_is : (a b : ℤ) → a +ℤ b ≡ lesser a b +ℤ greater a b
sum_is a b = grind (arith, ints)

are_of : (a b : ℤ) → AreOf a b (lesser a b) (greater a b) (floor_div (a +ℤ b) 2)
are_of a b = record {
  low_a = lesser_left a b;
  low_b = lesser_right a b;
  high_a = greater_left a b;
  high_b = greater_right a b;
  sum = sum_is a b;
  mean_below = mean_low a b;
  mean_above = mean_high a b;
}

ring_of : (a b m x r d : ℤ) → AreOf a b m x r → pos 1000 ≤ℤ m → (x -ℤ m) ≤ℤ d → x ≤ℤ (pos 2 *ℤ m) → d ≤ℤ pos 1000000 → a ≤ℤ pos 1854100000 → IsRing m x r
ring_of a b m x r d are some near twice small start =
    let la = are.low_a in
    let lb = are.low_b in
    let ha = are.high_a in
    let hb = are.high_b in
    let s = are.sum in
    let below = are.mean_below in
    let above = are.mean_above in
    record {
      some = some;
      least = omega (arith, ints);
      most = omega (arith, ints);
      twice = twice;
      mean = omega (arith, ints);
      bound = omega (arith, ints);
    }

pub arc_ring : (arc : Arc) → IsArc arc → IsSound arc → IsRing (least_radius arc) (greatest_radius arc) (mean_radius arc)
arc_ring arc h sound =
    ring_of (radius_of arc.start) (radius_of arc.«end») (least_radius arc) (greatest_radius arc) (mean_radius arc) (deviation_of arc)
    (are_of (radius_of arc.start) (radius_of arc.«end»)) sound.some sound.near sound.twice (deviation_most arc h) (start_radius arc h)

pub start_node : (arc : Arc) → IsArc arc → IsSound arc → IsNode (least_radius arc) (greatest_radius arc) (start_of arc)
start_node arc h sound = whole_node (least_radius arc) (greatest_radius arc) (radius_of arc.start) arc.start sound.some
    (lesser_left (radius_of arc.start) (radius_of arc.«end»)) (greater_left (radius_of arc.start) (radius_of arc.«end»)) (radius_is arc.start (start_short arc h))

pub end_node : (arc : Arc) → IsArc arc → IsSound arc → IsNode (least_radius arc) (greatest_radius arc) (end_of arc)
end_node arc h sound = whole_node (least_radius arc) (greatest_radius arc) (radius_of arc.«end») arc.«end» sound.some
    (lesser_right (radius_of arc.start) (radius_of arc.«end»)) (greater_right (radius_of arc.start) (radius_of arc.«end»)) (radius_is arc.«end» sound.short)

pub arc_part : (arc : Arc) → IsArc arc → IsSound arc → IsPart (turn_of arc) (start_of arc) (end_of arc)
arc_part arc h sound = record {
  m = least_radius arc;
  x = greatest_radius arc;
  ring = arc_ring arc h sound;
  from = start_node arc h sound;
  to = end_node arc h sound;
}

-- ---- the ring between start and end

lesser_most : (a b c : ℤ) → c ≤ℤ a → c ≤ℤ b → c ≤ℤ lesser a b
lesser_most a b c h k = grind (arith, ints)

-- the squares of the lengths of both
root_low : (m r s : ℤ) → pos 1000 ≤ℤ m → m ≤ℤ r → IsRootOf s r → (m *ℤ m) ≤ℤ s
root_low m r s some least root = through _ _ _ (square_order m r (omega (arith, ints)) least) root.below

root_high : (x r s : ℤ) → pos 1000 ≤ℤ r → r ≤ℤ x → IsRootOf s r → s ≤ℤ ((x +ℤ pos 2) *ℤ (x +ℤ pos 2))
root_high x r s some most root = through _ _ _ (up_to _ _ root.above) (square_order (r +ℤ pos 1) (x +ℤ pos 2) (omega (arith, ints)) (omega (arith, ints)))

pub ring_inner : (arc : Arc) → IsArc arc → IsSound arc → (e g : ℤ) → (square e *ℤ lesser (dot arc.start arc.start) (dot arc.«end» arc.«end»)) ≤ℤ g → ((e *ℤ e) *ℤ (least_radius arc *ℤ least_radius arc)) ≤ℤ g
ring_inner arc h sound e g inner =
    through _ _ _ (room_order (e *ℤ e) (least_radius arc *ℤ least_radius arc) (lesser (dot arc.start arc.start) (dot arc.«end» arc.«end»)) (sq-ℤ e)
    (lesser_most (dot arc.start arc.start) (dot arc.«end» arc.«end») _
    (root_low (least_radius arc) (radius_of arc.start) (dot arc.start arc.start) sound.some (lesser_left (radius_of arc.start) (radius_of arc.«end»)) (radius_is arc.start (start_short arc h)))
    (root_low (least_radius arc) (radius_of arc.«end») (dot arc.«end» arc.«end») sound.some (lesser_right (radius_of arc.start) (radius_of arc.«end»)) (radius_is arc.«end» sound.short))))
    inner

pub ring_outer : (arc : Arc) → IsArc arc → IsSound arc → (e g : ℤ) → g ≤ℤ (square e *ℤ greater (dot arc.start arc.start) (dot arc.«end» arc.«end»))
    → g ≤ℤ ((e *ℤ e) *ℤ ((greatest_radius arc +ℤ pos 2) *ℤ (greatest_radius arc +ℤ pos 2)))
ring_outer arc h sound e g outer =
    through _ _ _ outer (room_order (e *ℤ e) (greater (dot arc.start arc.start) (dot arc.«end» arc.«end»)) ((greatest_radius arc +ℤ pos 2) *ℤ (greatest_radius arc +ℤ pos 2)) (sq-ℤ e)
    (greater_least (dot arc.start arc.start) (dot arc.«end» arc.«end») _
    (root_high (greatest_radius arc) (radius_of arc.start) (dot arc.start arc.start) (through _ _ _ sound.some (lesser_left (radius_of arc.start) (radius_of arc.«end»))) (greater_left (radius_of arc.start) (radius_of arc.«end»))
    (radius_is arc.start (start_short arc h)))
    (root_high (greatest_radius arc) (radius_of arc.«end») (dot arc.«end» arc.«end») (through _ _ _ sound.some (lesser_right (radius_of arc.start) (radius_of arc.«end»))) (greater_right (radius_of arc.start) (radius_of arc.«end»))
    (radius_is arc.«end» sound.short))))
