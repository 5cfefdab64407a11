-- A triangle that is touched on a fiber: its box meets the fiber's strip, and some corner is over the fiber's height.
use Rattle.std.proofs.Common.{◌≡◌, refl, ap, sym, subst, subst₂, arith}
use Rattle.std.proofs.lemmas.Int.{ints, by_lt_z}
use lib.IntN.{ℤ, pos, ◌+ℤ◌, ◌-ℤ◌, ◌*ℤ◌}
use lib.Signed.{◌<ℤ◌, ◌≤ℤ◌}
use Rattle.mill_base.specs.Numbers.{lesser, greater}
use Rattle.mill_base.specs.Points.{highest, minus, times}
use Rattle.mill_base.specs.Contact.{Holds, Touches}
use Rattle.mill_base.specs.Sizes.{IsCutter, radius_of}
use Rattle.mill_base.specs.declared.points.Pt3.{Pt3}
use Rattle.mill_base.specs.declared.points.Tri.{Tri}
use Rattle.mill_base.specs.declared.points.Box2.{Box2}
use Rattle.mill_base.specs.declared.cutter.Cutter.{Cutter}
use Rattle.mill_base.proofs.Integers.{mul_pos-ℤ, one-mul-ℤ}
use Rattle.mill_shape.proofs.Holding.{IsAround, holds_over_tip, near_around}
use Rattle.mill_part.proofs.TopLemmas.{corners_under}
use Rattle.mill_cells.specs.Boxes.{Meet, box_of}
use Rattle.mill_geom.specs.declared.touch.Axis.{Axis}
use Rattle.mill_geom.specs.declared.touch.Axis.TheVariants.{X, Y}
use Rattle.mill_push.specs.declared.fiber.Fiber.{Fiber}
use Rattle.mill_push.specs.Fibers.{IsTouched, place_on, tip_on}
use Rattle.mill_push.specs.Touches.{strip_along}
use Rattle.mill_push.specs.inner.Reaches.{IsReach, IsReachForTri}
use Rattle.mill_push.proofs.NearCerts.{mean_high, mean_low, reaches_up, reaches_down}
use Rattle.mill_push.proofs.ReachCerts.{under_rise}
use Rattle.mill_push.proofs.Pushing.{has_radius}

-- a number that lies in both of two stretches
record IsCommonTo (low high from to at : ℤ) : Type 0 where
  right : low ≤ℤ at
  left : at ≤ℤ high
  right_too : from ≤ℤ at
  left_too : at ≤ℤ to

-- along one axis: a mean of three places that is within r of x, and a stretch that holds what is within r of x
common : (u v w n a b c p x r from to : ℤ) → (pos 0) ≤ℤ u → (pos 0) ≤ℤ v → (pos 0) ≤ℤ w → (pos 0) <ℤ n → n ≡ (u +ℤ v) +ℤ w → p ≡ (u *ℤ a +ℤ v *ℤ b) +ℤ w *ℤ c
    → (pos 1) ≤ℤ r → (p -ℤ n *ℤ x) <ℤ (r *ℤ n) → (n *ℤ x -ℤ p) <ℤ (r *ℤ n) → from ≤ℤ (x -ℤ r) → (x +ℤ r) ≤ℤ to
    → IsCommonTo (lesser a (lesser b c)) (greater a (greater b c)) from to (greater (lesser a (lesser b c)) from)
common u v w n a b c p x r from to hu hv hw hn weights place hr near_up near_down hf ht =
    let low = lesser a (lesser b c) in
    let high = greater a (greater b c) in
    let l = lows a b c in
    let h = highs a b c in
    let over : (n *ℤ low) ≤ℤ p = rw (weights, place) (mean_high u v w a b c low hu hv hw l.0 l.1 l.2) in
    let under : p ≤ℤ (n *ℤ high) = rw (weights, place) (mean_low u v w a b c high hu hv hw h.0 h.1 h.2) in
    let up : low ≤ℤ (x +ℤ r) = by_lt_z low (x +ℤ r) (λ less. weak low (x +ℤ r) less) (λ ge. absurd (reaches_up n x r p low hn near_up over ge)) in
    let down : (x -ℤ r) ≤ℤ high = by_lt_z (x -ℤ r) high (λ less. weak (x -ℤ r) high less) (λ ge. absurd (reaches_down n x r p high hn near_down under ge)) in
    both low high from to (ordered a b c) (wide from x r to hr hf ht) (through low (x +ℤ r) to up ht) (through from (x -ℤ r) high hf down)
  where
    lows : (a b c : ℤ) → (lesser a (lesser b c) ≤ℤ a) × (lesser a (lesser b c) ≤ℤ b) × (lesser a (lesser b c) ≤ℤ c)
    lows a b c = grind (arith, ints)

    highs : (a b c : ℤ) → (a ≤ℤ greater a (greater b c)) × (b ≤ℤ greater a (greater b c)) × (c ≤ℤ greater a (greater b c))
    highs a b c = grind (arith, ints)

    ordered : (a b c : ℤ) → lesser a (lesser b c) ≤ℤ greater a (greater b c)
    ordered a b c = grind (arith, ints)

    wide : (f x r t : ℤ) → (pos 1) ≤ℤ r → f ≤ℤ (x -ℤ r) → (x +ℤ r) ≤ℤ t → f ≤ℤ t
    wide f x r t h k l = omega (arith, ints)

    weak : (a b : ℤ) → a <ℤ b → a ≤ℤ b
    weak a b h = omega (arith, ints)

    through : (a b c : ℤ) → a ≤ℤ b → b ≤ℤ c → a ≤ℤ c
    through a b c h k = omega (arith, ints)

    both : (low high from to : ℤ) → low ≤ℤ high → from ≤ℤ to → low ≤ℤ to → from ≤ℤ high → IsCommonTo low high from to (greater low from)
    both low high from to a b c d = record { right = grind (arith, ints); left = grind (arith, ints); right_too = grind (arith, ints); left_too = grind (arith, ints) }

-- from the centre's offset as a point held has it
pub side_up : (p q n x m r : ℤ) → q ≡ p → m ≡ n → (q -ℤ n *ℤ x) <ℤ (r *ℤ m) → (p -ℤ n *ℤ x) <ℤ (r *ℤ n)
side_up p q n x m r e f h = subst₂ (λ a b. (a -ℤ n *ℤ x) <ℤ (r *ℤ b)) e f h

pub side_down : (p q n x m r : ℤ) → q ≡ p → m ≡ n → ((pos 0) -ℤ (q -ℤ n *ℤ x)) <ℤ (r *ℤ m) → (n *ℤ x -ℤ p) <ℤ (r *ℤ n)
side_down p q n x m r e f h = turned (n *ℤ x) p (r *ℤ n) (subst₂ (λ a b. ((pos 0) -ℤ (a -ℤ n *ℤ x)) <ℤ (r *ℤ b)) e f h)
  where
    turned : (a b c : ℤ) → ((pos 0) -ℤ (b -ℤ a)) <ℤ c → (a -ℤ b) <ℤ c
    turned a b c h = omega (arith, ints)

-- the area holds the square about a tip that is r wide on each side
record HoldsSquare (area : Box2) (tip : Pt3) (r : ℤ) : Type 0 where
  west : area.x0 ≤ℤ (tip.x -ℤ r)
  east : (tip.x +ℤ r) ≤ℤ area.x1
  south : area.y0 ≤ℤ (tip.y -ℤ r)
  north : (tip.y +ℤ r) ≤ℤ area.y1

-- a mean of three heights isn't over the greatest of them
pub mean_under : (u v w n a b c p top : ℤ) → (pos 0) ≤ℤ u → (pos 0) ≤ℤ v → (pos 0) ≤ℤ w → n ≡ (u +ℤ v) +ℤ w → p ≡ (u *ℤ a +ℤ v *ℤ b) +ℤ w *ℤ c → (a ≤ℤ top) × (b ≤ℤ top) × (c ≤ℤ top) → p ≤ℤ (n *ℤ top)
mean_under u v w n a b c p top hu hv hw weights place under = rw (weights, place) (mean_low u v w a b c top hu hv hw under.0 under.1 under.2)

-- in x and in y, a point that the cutter holds is nearer to the tip than a reach for its height
pub held_around : (cutter : Cutter) (tip : Pt3) (n : ℤ) (p : Pt3) (top r : ℤ) → (pos 0) <ℤ n → IsReach cutter (top -ℤ tip.z) r → p.z ≤ℤ (n *ℤ top) → Holds cutter (pos 1) tip n p
    → IsAround (r *ℤ (pos 1 *ℤ n)) (pos 1 *ℤ p.x -ℤ n *ℤ tip.x) (pos 1 *ℤ p.y -ℤ n *ℤ tip.y)
held_around cutter tip n p top r some is low h =
    let whole = mul_pos-ℤ (pos 1) n (omega (arith, ints)) some in
    let near = is.near (pos 1 *ℤ n) (minus (times (pos 1) p) (times n tip)) whole (under_rise p.z n top tip.z low) h in
    near_around (pos 1 *ℤ p.x -ℤ n *ℤ tip.x) (pos 1 *ℤ p.y -ℤ n *ℤ tip.y) r (pos 1 *ℤ n) (positive r is.least) whole near
  where
    positive : (r : ℤ) → (pos 1) ≤ℤ r → (pos 0) <ℤ r
    positive r h = omega (arith, ints)

touching_meets : (cutter : Cutter) (tri : Tri) (tip : Pt3) (area : Box2) (r : ℤ) → IsReachForTri cutter tip.z r tri → HoldsSquare area tip r → Touches cutter (pos 1) tip tri → Meet (box_of tri) area
touching_meets cutter tri tip area r reach s t =
    let k = t.point in
    let least = reach.holds.least in
    let low = mean_under k.u k.v k.w t.n tri.a.z tri.b.z tri.c.z t.p.z reach.top k.u_ok k.v_ok k.w_ok k.weights (ap (λ (q : Pt3). q.z) k.place) reach.under in
    let around = held_around cutter tip t.n t.p reach.top r k.some reach.holds low t.inside in
    let one = one-mul-ℤ t.n in
    let px = one-mul-ℤ t.p.x in
    let py = one-mul-ℤ t.p.y in
    let in_x = common k.u k.v k.w t.n tri.a.x tri.b.x tri.c.x t.p.x tip.x r area.x0 area.x1 k.u_ok k.v_ok k.w_ok k.some k.weights (ap (λ (q : Pt3). q.x) k.place) least
    (side_up t.p.x (pos 1 *ℤ t.p.x) t.n tip.x (pos 1 *ℤ t.n) r px one around.east) (side_down t.p.x (pos 1 *ℤ t.p.x) t.n tip.x (pos 1 *ℤ t.n) r px one around.west) s.west s.east in
    let in_y = common k.u k.v k.w t.n tri.a.y tri.b.y tri.c.y t.p.y tip.y r area.y0 area.y1 k.u_ok k.v_ok k.w_ok k.some k.weights (ap (λ (q : Pt3). q.y) k.place) least
    (side_up t.p.y (pos 1 *ℤ t.p.y) t.n tip.y (pos 1 *ℤ t.n) r py one around.north) (side_down t.p.y (pos 1 *ℤ t.p.y) t.n tip.y (pos 1 *ℤ t.n) r py one around.south) s.south s.north in
    record {
      x = greater (box_of tri).x0 area.x0;
      y = greater (box_of tri).y0 area.y0;
      in_first = record { right = in_x.right; left = in_x.left; over = in_y.right; under = in_y.left };
      in_second = record { right = in_x.right_too; left = in_x.left_too; over = in_y.right_too; under = in_y.left_too };
    }

-- a tip of the fiber has its square in the strip
in_strip : (axis : Axis) (at z r from to v : ℤ) → from ≤ℤ v → v ≤ℤ to → HoldsSquare (strip_along axis at r from to) (place_on axis at z v) r
in_strip X at z r from to v a b = record { west = omega (arith, ints); east = omega (arith, ints); south = omega (arith, ints); north = omega (arith, ints) }
in_strip Y at z r from to v a b = record { west = omega (arith, ints); east = omega (arith, ints); south = omega (arith, ints); north = omega (arith, ints) }

-- some corner is over the tip of a cutter that touches
touching_over : (cutter : Cutter) (tri : Tri) (tip : Pt3) → (pos 1) ≤ℤ radius_of cutter → Touches cutter (pos 1) tip tri → tip.z <ℤ highest tri
touching_over cutter tri tip least t =
    let k = t.point in
    let c = corners_under tri in
    let over = holds_over_tip cutter (pos 1) tip t.n t.p least (omega (arith, ints)) k.some t.inside in
    by_lt_z tip.z (highest tri) (λ less. less)
    (λ low.
    let under = mean_low k.u k.v k.w tri.a.z tri.b.z tri.c.z tip.z k.u_ok k.v_ok k.w_ok (through _ (highest tri) tip.z c.0 low) (through _ (highest tri) tip.z c.1 low) (through _ (highest tri) tip.z c.2 low) in
    absurd (against t.p.z t.n _ _ tip.z (pos 1 *ℤ t.p.z) (one-mul-ℤ t.p.z) (ap (λ (q : Pt3). q.z) k.place) k.weights over under))
  where
    through : (a b c : ℤ) → a ≤ℤ b → b ≤ℤ c → a ≤ℤ c
    through a b c h k = omega (arith, ints)

    against : (p n m s z q : ℤ) → q ≡ p → p ≡ m → n ≡ s → (n *ℤ z) <ℤ q → m ≤ℤ (s *ℤ z) → ⊥
    against p n m s z q eq ep en over under = let u : m ≤ℤ (n *ℤ z) = rw (← en) at under in omega (arith, ints)

pub height_on : (axis : Axis) (at z v : ℤ) → (place_on axis at z v).z ≡ z
height_on X at z v = refl
height_on Y at z v = refl

-- a triangle that is touched at a position comes into the strip, and over the fiber's height
pub touched_meets : (cutter : Cutter) (tri : Tri) (fiber : Fiber) (r from to v : ℤ) → IsReachForTri cutter fiber.z r tri → from ≤ℤ v → v ≤ℤ to → IsTouched cutter tri fiber v
    → Meet (box_of tri) (strip_along fiber.axis fiber.at r from to)
touched_meets cutter tri fiber r from to v reach a b t =
    let height = height_on fiber.axis fiber.at fiber.z v in
    touching_meets cutter tri (tip_on fiber v) (strip_along fiber.axis fiber.at r from to) r (subst (λ (z : ℤ). IsReachForTri cutter z r tri) (sym height) reach)
    (in_strip fiber.axis fiber.at fiber.z r from to v a b) t

pub touched_over : (cutter : Cutter) (tri : Tri) (fiber : Fiber) (v : ℤ) → IsCutter cutter → IsTouched cutter tri fiber v → fiber.z <ℤ highest tri
touched_over cutter tri fiber v ok t =
    subst (λ (z : ℤ). z <ℤ highest tri) (height_on fiber.axis fiber.at fiber.z v) (touching_over cutter tri (tip_on fiber v) (has_radius cutter ok) t)

-- what meets a strip meets a wider one
pub meets_wider : (axis : Axis) (box : Box2) (at r s from to : ℤ) → r ≤ℤ s → Meet box (strip_along axis at r from to) → Meet box (strip_along axis at s from to)
meets_wider X box at r s from to h m = let n = m.in_second in record {
  x = m.x;
  y = m.y;
  in_first = m.in_first;
  in_second = record { right = from_less from r s m.x h n.right; left = to_more to r s m.x h n.left; over = from_less at r s m.y h n.over; under = to_more at r s m.y h n.under };
}
  where
    from_less : (f r s x : ℤ) → r ≤ℤ s → (f -ℤ r) ≤ℤ x → (f -ℤ s) ≤ℤ x
    from_less f r s x h k = omega (arith, ints)

    to_more : (t r s x : ℤ) → r ≤ℤ s → x ≤ℤ (t +ℤ r) → x ≤ℤ (t +ℤ s)
    to_more t r s x h k = omega (arith, ints)
meets_wider Y box at r s from to h m = let n = m.in_second in record {
  x = m.x;
  y = m.y;
  in_first = m.in_first;
  in_second = record { right = from_less at r s m.x h n.right; left = to_more at r s m.x h n.left; over = from_less from r s m.y h n.over; under = to_more to r s m.y h n.under };
}
  where
    from_less : (f r s x : ℤ) → r ≤ℤ s → (f -ℤ r) ≤ℤ x → (f -ℤ s) ≤ℤ x
    from_less f r s x h k = omega (arith, ints)

    to_more : (t r s x : ℤ) → r ≤ℤ s → x ≤ℤ (t +ℤ r) → x ≤ℤ (t +ℤ s)
    to_more t r s x h k = omega (arith, ints)
