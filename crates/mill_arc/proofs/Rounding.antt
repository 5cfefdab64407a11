-- The move between the places of a chord's ends is near the chord.
use Rattle.std.specs.Prelude.{ℤ, pos, nat_abs, ◌+ℤ◌, ◌-ℤ◌, ◌*ℤ◌, ◌<ℤ◌, ◌≤ℤ◌}
use Rattle.std.proofs.Common.{arith}
use Rattle.std.proofs.lemmas.Int.{ints}
use Rattle.mill_base.proofs.Integers.{mul_nonneg-ℤ}
use Rattle.mill_base.specs.Motion.{IsMoment}
use Rattle.mill_base.specs.declared.unit.Unit.{Unit}
use Rattle.mill_base.specs.declared.unit.Unit.TheVariants.{Hundredth, Thousandth}
use Rattle.mill_arc.proofs.Nearest.{nearest_half}
use Rattle.mill_arc.proofs.Nearness.{Near}
use Rattle.mill_arc.proofs.RingCerts.{halves_square, moment_above, moment_below, rounding_near}
use Rattle.mill_arc.specs.Arcs.{nanometres_of}
use Rattle.mill_arc.specs.Places.{nearest, place_of}
use Rattle.mill_arc.specs.Rings.{on_chord, tip_on}
use Rattle.mill_arc.specs.Sectors.{Sector}
use Rattle.mill_arc.specs.declared.vectors.Vector.{Vector}

-- d times p is at most half of d from c + u
pub record IsRounded (d c p : ℤ) : Type 0 where
  pub most : (pos 2 *ℤ (d *ℤ p -ℤ c)) ≤ℤ d
  pub least : (pos 0 -ℤ d) ≤ℤ (pos 2 *ℤ (d *ℤ p -ℤ c))

pub place_rounded : (unit : Unit) (c u : ℤ) → IsRounded (nanometres_of unit) (c +ℤ u) (place_of unit c u)
place_rounded Hundredth c u = let h = nearest_half (c +ℤ u) 10000 (omega arith) in record { most = h.most; least = h.least }
place_rounded Thousandth c u = let h = nearest_half (c +ℤ u) 1000 (omega arith) in record { most = h.most; least = h.least }

pub height_rounded : (unit : Unit) (h : ℤ) → IsRounded (nanometres_of unit) h (nearest h (nat_abs (nanometres_of unit)))
height_rounded Hundredth h = let it = nearest_half h 10000 (omega arith) in record { most = it.most; least = it.least }
height_rounded Thousandth h = let it = nearest_half h 1000 (omega arith) in record { most = it.most; least = it.least }

pub unit_least : (unit : Unit) → pos 1000 ≤ℤ nanometres_of unit
unit_least Hundredth = omega (arith, ints)
unit_least Thousandth = omega (arith, ints)

pub up_to : (n : ℤ) → (pos 0) <ℤ n → (pos 0) ≤ℤ n
up_to n h = omega (arith, ints)

axis : (n k d c u v p q : ℤ) → IsMoment k n → IsRounded d (c +ℤ u) p → IsRounded d (c +ℤ v) q
    → (pos 4 *ℤ ((d *ℤ ((n -ℤ k) *ℤ p +ℤ k *ℤ q) -ℤ (n *ℤ c +ℤ ((n -ℤ k) *ℤ u +ℤ k *ℤ v))) *ℤ (d *ℤ ((n -ℤ k) *ℤ p +ℤ k *ℤ q) -ℤ (n *ℤ c +ℤ ((n -ℤ k) *ℤ u +ℤ k *ℤ v))))) ≤ℤ ((n *ℤ d) *ℤ (n *ℤ d))
axis n k d c u v p q moment first second = halves_square (n *ℤ d) (d *ℤ ((n -ℤ k) *ℤ p +ℤ k *ℤ q) -ℤ (n *ℤ c +ℤ ((n -ℤ k) *ℤ u +ℤ k *ℤ v)))
    (moment_above n k d c u v p q moment.after moment.before first.most second.most)
    (moment_below n k d c u v p q moment.after moment.before first.least second.least)

-- how far the tip is from the chord's point, times 10,000
pub tip_near : (unit : Unit) (centre : Vector) (s : Sector) (k n : ℤ) → IsMoment k n
    → Near (pos 7072 *ℤ (n *ℤ nanometres_of unit))
    (pos 10000 *ℤ ((tip_on unit centre s k n).first -ℤ (n *ℤ centre.first +ℤ (on_chord s k n).first)))
    (pos 10000 *ℤ ((tip_on unit centre s k n).second -ℤ (n *ℤ centre.second +ℤ (on_chord s k n).second)))
tip_near unit centre s k n moment = record {
  some = mul_nonneg-ℤ (pos 7072) (n *ℤ nanometres_of unit) (omega (arith, ints)) (mul_nonneg-ℤ n (nanometres_of unit) (up_to n moment.some) (wide (nanometres_of unit) (unit_least unit)));
  near = rounding_near
      ((tip_on unit centre s k n).first -ℤ (n *ℤ centre.first +ℤ (on_chord s k n).first)) ((tip_on unit centre s k n).second -ℤ (n *ℤ centre.second +ℤ (on_chord s k n).second)) (n *ℤ nanometres_of unit)
      (axis n k (nanometres_of unit) centre.first s.from.first s.to.first (place_of unit centre.first s.from.first) (place_of unit centre.first s.to.first) moment
      (place_rounded unit centre.first s.from.first) (place_rounded unit centre.first s.to.first))
      (axis n k (nanometres_of unit) centre.second s.from.second s.to.second (place_of unit centre.second s.from.second) (place_of unit centre.second s.to.second) moment
      (place_rounded unit centre.second s.from.second) (place_rounded unit centre.second s.to.second));
}
  where
    wide : (k : ℤ) → pos 1000 ≤ℤ k → (pos 0) ≤ℤ k
    wide k h = omega (arith, ints)
