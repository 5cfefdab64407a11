-- The points of a helix are near the tip in space.
use Rattle.std.specs.Prelude.{ℤ, pos, ◌+ℤ◌, ◌-ℤ◌, ◌*ℤ◌, ◌<ℤ◌, ◌≤ℤ◌}
use Rattle.std.proofs.Common.{arith, refl, subst, sym}
use Rattle.std.proofs.lemmas.Int.{ints}
use Rattle.mill_base.proofs.Integers.{mul_nonneg-ℤ}
use Rattle.mill_base.specs.Motion.{IsMoment}
use Rattle.mill_base.specs.Numbers.{square}
use Rattle.mill_arc.proofs.Moments.{counted, least_tolerance, tip_by}
use Rattle.mill_arc.proofs.Nearness.{Near, near_more, near_parts}
use Rattle.mill_arc.proofs.Parts.{deviation_least}
use Rattle.mill_arc.proofs.RingCerts.{helix_height, helix_last, helix_reach, helix_room, helix_sum, hundreds_square, thousand_times}
use Rattle.mill_arc.proofs.Rounding.{unit_least, up_to}
use Rattle.mill_arc.specs.Arcs.{deviation_of, nanometres_of}
use Rattle.mill_arc.specs.Rings.{HelixIsNear, IsBeside, in_plane, on_chord, space_reach, tip_on}
use Rattle.mill_arc.specs.Sectors.{Sector}
use Rattle.mill_arc.specs.Vectors.{minus, times}
use Rattle.mill_arc.specs.declared.arc.Arc.{Arc}
use Rattle.mill_arc.specs.declared.vectors.Vector.{Vector}

wide : (k : ℤ) → pos 1000 ≤ℤ k → (pos 0) ≤ℤ k
wide k h = omega (arith, ints)

-- how far it may be in the plane, in hundredths of a nanometre
room_some : (n e d k : ℤ) → (pos 0) <ℤ n → (pos 0) <ℤ e → (pos 0) ≤ℤ d → pos 1000 ≤ℤ k → (pos 0) ≤ℤ (n *ℤ (e *ℤ ((pos 100 *ℤ d +ℤ pos 124 *ℤ k) +ℤ pos 300)))
room_some n e d k hn he hd hk = mul_nonneg-ℤ n _ (up_to n hn) (mul_nonneg-ℤ e _ (up_to e he) (sum d k hd hk))
  where
    sum : (d k : ℤ) → (pos 0) ≤ℤ d → pos 1000 ≤ℤ k → (pos 0) ≤ℤ ((pos 100 *ℤ d +ℤ pos 124 *ℤ k) +ℤ pos 300)
    sum d k h l = omega (arith, ints)

beside_near : (arc : Arc) (s : Sector) (from to k n e : ℤ) (x : Vector) (g : ℤ) → IsMoment k n → (pos 0) <ℤ e → IsBeside arc s from to k n e x g
    → Near (n *ℤ (e *ℤ ((pos 100 *ℤ deviation_of arc +ℤ pos 124 *ℤ nanometres_of arc.unit) +ℤ pos 300)))
    (pos 100 *ℤ (e *ℤ (on_chord s k n).first -ℤ n *ℤ x.first)) (pos 100 *ℤ (e *ℤ (on_chord s k n).second -ℤ n *ℤ x.second))
beside_near arc s from to k n e x g moment some it = record {
  some = room_some n e (deviation_of arc) (nanometres_of arc.unit) moment.some some (deviation_least arc) (unit_least arc.unit);
  near = subst (λ (t : ℤ). t ≤ℤ square (n *ℤ (e *ℤ ((pos 100 *ℤ deviation_of arc +ℤ pos 124 *ℤ nanometres_of arc.unit) +ℤ pos 300))))
      (hundreds_square (e *ℤ (on_chord s k n).first -ℤ n *ℤ x.first) (e *ℤ (on_chord s k n).second -ℤ n *ℤ x.second)) it.near;
}

tens : (r a b : ℤ) → (pos 0) ≤ℤ r → Near (pos 10 *ℤ r) (pos 10000 *ℤ a) (pos 10000 *ℤ b) → Near r (pos 1000 *ℤ a) (pos 1000 *ℤ b)
tens r a b some h = near_parts (pos 10) r (pos 1000 *ℤ a) (pos 1000 *ℤ b) (omega (arith, ints)) some
    (subst (λ (p : ℤ). Near (pos 10 *ℤ r) p (pos 10 *ℤ (pos 1000 *ℤ b))) (thousand_times a) (subst (λ (p : ℤ). Near (pos 10 *ℤ r) (pos 10000 *ℤ a) p) (thousand_times b) h))

reach_some : (n e k t : ℤ) → (pos 0) <ℤ n → (pos 0) <ℤ e → pos 1000 ≤ℤ k → (pos 0) ≤ℤ t → (pos 0) ≤ℤ ((n *ℤ e) *ℤ (k *ℤ (pos 1000 *ℤ t +ℤ pos 1951)))
reach_some n e k t hn he hk ht = mul_nonneg-ℤ (n *ℤ e) _ (mul_nonneg-ℤ n e (up_to n hn) (up_to e he)) (mul_nonneg-ℤ k _ (wide k hk) (tall t ht))
  where
    tall : (t : ℤ) → (pos 0) ≤ℤ t → (pos 0) ≤ℤ (pos 1000 *ℤ t +ℤ pos 1951)
    tall t h = omega (arith, ints)

-- the room for the height
room_is : (n e k t : ℤ) → pos 1 ≤ℤ t
    → (((n *ℤ e) *ℤ (k *ℤ (pos 1000 *ℤ t +ℤ pos 1951))) *ℤ ((n *ℤ e) *ℤ (k *ℤ (pos 1000 *ℤ t +ℤ pos 1951))) +ℤ pos 250000 *ℤ ((n *ℤ (e *ℤ k)) *ℤ (n *ℤ (e *ℤ k))))
    ≤ℤ ((pos 100 *ℤ (n *ℤ (e *ℤ (k *ℤ (pos 10 *ℤ t +ℤ pos 20))))) *ℤ (pos 100 *ℤ (n *ℤ (e *ℤ (k *ℤ (pos 10 *ℤ t +ℤ pos 20))))))
room_is n e k t h =
    subst (λ (p : ℤ). (((n *ℤ e) *ℤ (k *ℤ (pos 1000 *ℤ t +ℤ pos 1951))) *ℤ ((n *ℤ e) *ℤ (k *ℤ (pos 1000 *ℤ t +ℤ pos 1951))) +ℤ pos 250000 *ℤ ((n *ℤ (e *ℤ k)) *ℤ (n *ℤ (e *ℤ k)))) ≤ℤ (p *ℤ p)) (helix_reach n e k t)
    (subst (λ (p : ℤ). (((n *ℤ e) *ℤ (k *ℤ (pos 1000 *ℤ t +ℤ pos 1951))) *ℤ ((n *ℤ e) *ℤ (k *ℤ (pos 1000 *ℤ t +ℤ pos 1951))) +ℤ pos 250000 *ℤ p)
    ≤ℤ (((n *ℤ e) *ℤ (k *ℤ (pos 1000 *ℤ t +ℤ pos 2000))) *ℤ ((n *ℤ e) *ℤ (k *ℤ (pos 1000 *ℤ t +ℤ pos 2000))))) (sym (helix_height n e k)) (helix_room (n *ℤ e) k t h))

pub helix_is_near : HelixIsNear
helix_is_near arc s centre x from to g k n e chord moment some it =
    let d = minus (times e (tip_on arc.unit centre s k n)) (times n (in_plane centre e x)) in
    let unit = nanometres_of arc.unit in
    let t = pos arc.tolerance in
    let near = tip_by arc s centre x k n e _ moment some (beside_near arc s from to k n e x g moment some it) in
    let flat = tens ((n *ℤ e) *ℤ (unit *ℤ (pos 1000 *ℤ t +ℤ pos 1951))) d.first d.second (reach_some n e unit t moment.some some (unit_least arc.unit) (counted arc.tolerance))
    (near_more _ (pos 10 *ℤ ((n *ℤ e) *ℤ (unit *ℤ (pos 1000 *ℤ t +ℤ pos 1951)))) _ _ (helix_sum n e unit t (deviation_of arc) moment.some some (unit_least arc.unit) refl) near) in
    record {
      near = helix_last d.first d.second (e *ℤ (unit *ℤ ((n -ℤ k) *ℤ from +ℤ k *ℤ to)) -ℤ n *ℤ g) ((n *ℤ e) *ℤ (unit *ℤ (pos 1000 *ℤ t +ℤ pos 1951))) (n *ℤ (e *ℤ unit)) (n *ℤ (e *ℤ space_reach arc))
          flat.near it.level (room_is n e unit t (least_tolerance arc.tolerance chord.arc_ok.tolerance_least));
    }
