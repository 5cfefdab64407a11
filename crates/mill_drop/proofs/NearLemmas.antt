-- A triangle that a cutter holds some of is near: its box meets the square about the cutter's place.
use Rattle.std.proofs.Common.{◌≡◌, ap, subst₂, arith}
use Rattle.std.proofs.lemmas.Int.{ints, by_lt_z}
use lib.IntN.{ℤ, pos, ◌+ℤ◌, ◌-ℤ◌, ◌*ℤ◌}
use lib.Signed.{◌<ℤ◌, ◌≤ℤ◌}
use Rattle.mill_base.specs.Numbers.{lesser, greater}
use Rattle.mill_base.specs.Points.{point_at}
use Rattle.mill_base.specs.Sizes.{radius_of}
use Rattle.mill_base.specs.declared.points.Pt3.{Pt3}
use Rattle.mill_base.specs.declared.points.Tri.{Tri}
use Rattle.mill_base.specs.declared.cutter.Cutter.{Cutter}
use Rattle.mill_base.proofs.Integers.{one-mul-ℤ}
use Rattle.mill_shape.proofs.Holding.{holds_around}
use Rattle.mill_cells.specs.Boxes.{Meet, box_of}
use Rattle.mill_cells.proofs.Meeting.{Overlap, overlapping_meet, least_of_three, greatest_of_three, ends_in_order}
use Rattle.mill_drop.specs.inner.Solids.{TouchesAt}
use Rattle.mill_drop.specs.inner.Near.{square_about}
use Rattle.mill_drop.proofs.HeightCerts.{mean_low}
use Rattle.mill_drop.proofs.NearCerts.{mean_high, reaches_up, reaches_down}

-- along one axis: a mean of three places that is within r of x, and the stretch of the places
overlap : (u v w n a b c p x r : ℤ) → (pos 0) ≤ℤ u → (pos 0) ≤ℤ v → (pos 0) ≤ℤ w → (pos 0) <ℤ n → n ≡ (u +ℤ v) +ℤ w → p ≡ (u *ℤ a +ℤ v *ℤ b) +ℤ w *ℤ c
    → (pos 1) ≤ℤ r → (p -ℤ n *ℤ x) <ℤ (r *ℤ n) → (n *ℤ x -ℤ p) <ℤ (r *ℤ n)
    → Overlap (lesser a (lesser b c)) (greater a (greater b c)) (x -ℤ r) (x +ℤ r)
overlap u v w n a b c p x r hu hv hw hn weights place hr near_up near_down =
    let low = lesser a (lesser b c) in
    let high = greater a (greater b c) in
    let l = least_of_three a b c in
    let h = greatest_of_three a b c in
    let over : (n *ℤ low) ≤ℤ p = rw (weights, place) (mean_high u v w a b c low hu hv hw l.0 l.1 l.2) in
    let under : p ≤ℤ (n *ℤ high) = rw (weights, place) (mean_low u v w a b c high hu hv hw h.0 h.1 h.2) in
    record {
      first = ends_in_order a b c;
      second = wide x r hr;
      up = by_lt_z low (x +ℤ r) (λ less. not_over low (x +ℤ r) less) (λ ge. absurd (reaches_up n x r p low hn near_up over ge));
      down = by_lt_z (x -ℤ r) high (λ less. not_over (x -ℤ r) high less) (λ ge. absurd (reaches_down n x r p high hn near_down under ge));
    }
  where
    wide : (x r : ℤ) → (pos 1) ≤ℤ r → (x -ℤ r) ≤ℤ (x +ℤ r)
    wide x r h = omega (arith, ints)

    not_over : (a b : ℤ) → a <ℤ b → a ≤ℤ b
    not_over a b h = omega (arith, ints)

-- from the centre's offset as a point held has it
side_up : (p q n x m r : ℤ) → q ≡ p → m ≡ n → (q -ℤ n *ℤ x) <ℤ (r *ℤ m) → (p -ℤ n *ℤ x) <ℤ (r *ℤ n)
side_up p q n x m r e f h = subst₂ (λ a b. (a -ℤ n *ℤ x) <ℤ (r *ℤ b)) e f h

side_down : (p q n x m r : ℤ) → q ≡ p → m ≡ n → ((pos 0) -ℤ (q -ℤ n *ℤ x)) <ℤ (r *ℤ m) → (n *ℤ x -ℤ p) <ℤ (r *ℤ n)
side_down p q n x m r e f h = turned (n *ℤ x) p (r *ℤ n) (subst₂ (λ a b. ((pos 0) -ℤ (a -ℤ n *ℤ x)) <ℤ (r *ℤ b)) e f h)
  where
    turned : (a b c : ℤ) → ((pos 0) -ℤ (b -ℤ a)) <ℤ c → (a -ℤ b) <ℤ c
    turned a b c h = omega (arith, ints)

pub touching_meets : (cutter : Cutter) (tri : Tri) (x y z : ℤ) → (pos 1) ≤ℤ radius_of cutter → TouchesAt cutter tri x y z → Meet (box_of tri) (square_about cutter x y)
touching_meets cutter tri x y z least t =
    let k = t.point in
    let r = radius_of cutter in
    let around = holds_around cutter (pos 1) (point_at x y z) t.n t.p least (omega (arith, ints)) k.some t.inside in
    let one = one-mul-ℤ t.n in
    let px = one-mul-ℤ t.p.x in
    let py = one-mul-ℤ t.p.y in
    let in_x = overlap k.u k.v k.w t.n tri.a.x tri.b.x tri.c.x t.p.x x r k.u_ok k.v_ok k.w_ok k.some k.weights (ap (λ (q : Pt3). q.x) k.place) least
    (side_up t.p.x (pos 1 *ℤ t.p.x) t.n x (pos 1 *ℤ t.n) r px one around.east) (side_down t.p.x (pos 1 *ℤ t.p.x) t.n x (pos 1 *ℤ t.n) r px one around.west) in
    let in_y = overlap k.u k.v k.w t.n tri.a.y tri.b.y tri.c.y t.p.y y r k.u_ok k.v_ok k.w_ok k.some k.weights (ap (λ (q : Pt3). q.y) k.place) least
    (side_up t.p.y (pos 1 *ℤ t.p.y) t.n y (pos 1 *ℤ t.n) r py one around.north) (side_down t.p.y (pos 1 *ℤ t.p.y) t.n y (pos 1 *ℤ t.n) r py one around.south) in
    overlapping_meet (box_of tri) (square_about cutter x y) in_x in_y
