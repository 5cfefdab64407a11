-- Each moment of a chord has its points: those of the ring in the direction of the chord's point are near the tip.
use Rattle.std.specs.Prelude.{◌≡◌, ℕ, ◌≤◌, true, ℤ, pos, nat_abs, ◌+ℤ◌, ◌-ℤ◌, ◌*ℤ◌, ◌<ℤ◌, ◌≤ℤ◌}
use Rattle.std.proofs.Common.{inl, inr, arith, ap, refl, subst, sym, ◌∙◌}
use Rattle.std.proofs.lemmas.Int.{ints}
use lib.IntN.{*ℤ_comm}
use Rattle.mill_base.proofs.Exit.{split_lt}
use Rattle.mill_base.proofs.Integers.{mul_nonneg-ℤ, mul_pos-ℤ, zero-mul-ℤ}
use Rattle.mill_base.specs.Motion.{IsMoment}
use Rattle.mill_base.specs.Numbers.{square}
use Rattle.mill_base.specs.declared.unit.Unit.{Unit}
use Rattle.mill_arc.proofs.Deep.{AreLengths, IsDeep, chord_deep, depth_of, lengths_apart}
use Rattle.mill_arc.proofs.Nearness.{Near, near_more, near_parts, near_sum, near_times}
use Rattle.mill_arc.proofs.Parted.{chord_short}
use Rattle.mill_arc.proofs.Parts.{arc_ring, ring_inner, ring_outer}
use Rattle.mill_arc.proofs.RingCerts.{along_some, apart_square, chord_scaled, difference_is, halves_square, height_near, hundred_square, inner_scaled, lagrange, moment_room, moment_sum, outer_scaled, product_apart, room_least, room_order, square_apart, taken_room, ten_times, with_height}
use Rattle.mill_arc.proofs.Roots.{square_least}
use Rattle.mill_arc.proofs.Rounding.{height_rounded, tip_near, unit_least, up_to}
use Rattle.mill_arc.specs.Arcs.{deviation_of, greatest_radius, least_radius, mean_radius, nanometres_of}
use Rattle.mill_arc.specs.Places.{nearest}
use Rattle.mill_arc.specs.Rings.{IsAlong, IsChordOf, IsInRing, MomentIsNear, MomentIsNearInSpace, in_plane, on_chord, plane_reach, space_reach, tip_on}
use Rattle.mill_arc.specs.Sectors.{Sector}
use Rattle.mill_arc.specs.Vectors.{ahead, dot, minus, times}
use Rattle.mill_arc.specs.declared.arc.Arc.{Arc}
use Rattle.mill_arc.specs.declared.vectors.Vector.{Vector}

through : (a b c : ℤ) → a ≤ℤ b → b ≤ℤ c → a ≤ℤ c
through a b c h k = omega (arith, ints)

-- of two vectors in one direction the square of the product is the product of the squares
along_square : (l x : Vector) → ahead true l x ≡ pos 0 → dot l x *ℤ dot l x ≡ dot x x *ℤ dot l l
along_square l x none = by (dot l x *ℤ dot l x) (dot x x *ℤ dot l l) (ahead true l x) none (lagrange l.first l.second x.first x.second)
  where
    by : (a b c : ℤ) → c ≡ pos 0 → a +ℤ c *ℤ c ≡ b → a ≡ b
    by a b c none h = whole a b (subst (λ (t : ℤ). a +ℤ t *ℤ t ≡ b) none h)
      where
        whole : (a b : ℤ) → a +ℤ pos 0 *ℤ pos 0 ≡ b → a ≡ b
        whole a b h = omega (arith, ints)

-- the numbers of a ring's point and of the chord's: g and h are the squares of their lengths over e and over n, s is their product with each other
record AreAlong (m x y n e g h s : ℤ) : Type 0 where
  n_some : (pos 0) <ℤ n
  e_some : (pos 0) <ℤ e
  m_some : pos 1000 ≤ℤ m
  x_some : m ≤ℤ x
  g_some : (pos 0) <ℤ g
  h_some : (pos 0) <ℤ h
  s_some : (pos 0) <ℤ s
  g_least : ((e *ℤ e) *ℤ (m *ℤ m)) ≤ℤ g
  g_most : g ≤ℤ ((e *ℤ e) *ℤ ((x +ℤ pos 2) *ℤ (x +ℤ pos 2)))
  h_most : h ≤ℤ ((n *ℤ n) *ℤ ((x +ℤ pos 2) *ℤ (x +ℤ pos 2)))
  h_least : ((n *ℤ n) *ℤ (y *ℤ y)) ≤ℤ (pos 10000 *ℤ h)
  y_some : (pos 0) ≤ℤ y
  y_most : y ≤ℤ (pos 100 *ℤ m)
  along : s *ℤ s ≡ g *ℤ h

lengths_of : (m x y n e g h s : ℤ) → AreAlong m x y n e g h s
    → AreLengths ((n *ℤ e) *ℤ (pos 100 *ℤ (x +ℤ pos 2))) ((n *ℤ e) *ℤ y) ((pos 10000 *ℤ (n *ℤ n)) *ℤ g) ((pos 10000 *ℤ (e *ℤ e)) *ℤ h) (pos 10000 *ℤ ((n *ℤ e) *ℤ s))
lengths_of m x y n e g h s it = record {
  some = mul_nonneg-ℤ (n *ℤ e) y (up_to _ ne) it.y_some;
  order = room_order (n *ℤ e) y (pos 100 *ℤ (x +ℤ pos 2)) (up_to _ ne) (farther y m x it.y_most it.x_some);
  p_some = mul_pos-ℤ (n *ℤ e) (pos 100 *ℤ (x +ℤ pos 2)) ne (wide m x it.m_some it.x_some);
  a_some = mul_pos-ℤ (pos 10000 *ℤ (n *ℤ n)) g (mul_pos-ℤ (pos 10000) (n *ℤ n) (omega (arith, ints)) (mul_pos-ℤ n n it.n_some it.n_some)) it.g_some;
  b_some = mul_pos-ℤ (pos 10000 *ℤ (e *ℤ e)) h (mul_pos-ℤ (pos 10000) (e *ℤ e) (omega (arith, ints)) (mul_pos-ℤ e e it.e_some it.e_some)) it.h_some;
  a_least = inner_scaled n e m g y it.g_least it.y_some it.y_most;
  a_most = outer_scaled n e (x +ℤ pos 2) g it.g_most;
  b_least = chord_scaled n e h y it.h_least;
  b_most = subst (λ (t : ℤ). ((pos 10000 *ℤ (e *ℤ e)) *ℤ h) ≤ℤ ((t *ℤ (pos 100 *ℤ (x +ℤ pos 2))) *ℤ (t *ℤ (pos 100 *ℤ (x +ℤ pos 2))))) (*ℤ_comm e n) (outer_scaled e n (x +ℤ pos 2) h it.h_most);
  c_some = mul_nonneg-ℤ (pos 10000) ((n *ℤ e) *ℤ s) (omega (arith, ints)) (mul_nonneg-ℤ (n *ℤ e) s (up_to _ ne) (up_to s it.s_some));
  product = square_apart n e s ∙ ap (λ (t : ℤ). (pos 100000000 *ℤ ((n *ℤ e) *ℤ (n *ℤ e))) *ℤ t) it.along ∙ sym (product_apart n e g h);
}
  where
    ne : (pos 0) <ℤ (n *ℤ e)
    ne = mul_pos-ℤ n e it.n_some it.e_some

    farther : (y m x : ℤ) → y ≤ℤ (pos 100 *ℤ m) → m ≤ℤ x → y ≤ℤ (pos 100 *ℤ (x +ℤ pos 2))
    farther y m x h k = omega (arith, ints)

    wide : (m x : ℤ) → pos 1000 ≤ℤ m → m ≤ℤ x → (pos 0) <ℤ (pos 100 *ℤ (x +ℤ pos 2))
    wide m x h k = omega (arith, ints)

-- so the two are near each other
along_near : (m x y n e : ℤ) (l p : Vector) → AreAlong m x y n e (dot p p) (dot l l) (dot l p)
    → Near ((n *ℤ e) *ℤ (pos 100 *ℤ (x +ℤ pos 2)) -ℤ (n *ℤ e) *ℤ y) (pos 100 *ℤ (e *ℤ l.first -ℤ n *ℤ p.first)) (pos 100 *ℤ (e *ℤ l.second -ℤ n *ℤ p.second))
along_near m x y n e l p it = record {
  some = less ((n *ℤ e) *ℤ y) ((n *ℤ e) *ℤ (pos 100 *ℤ (x +ℤ pos 2))) lengths.order;
  near = subst (λ (t : ℤ). t ≤ℤ (((n *ℤ e) *ℤ (pos 100 *ℤ (x +ℤ pos 2)) -ℤ (n *ℤ e) *ℤ y) *ℤ ((n *ℤ e) *ℤ (pos 100 *ℤ (x +ℤ pos 2)) -ℤ (n *ℤ e) *ℤ y)))
      (apart_square n e p.first p.second l.first l.second) (lengths_apart _ _ _ _ _ lengths);
}
  where
    lengths : AreLengths ((n *ℤ e) *ℤ (pos 100 *ℤ (x +ℤ pos 2))) ((n *ℤ e) *ℤ y) ((pos 10000 *ℤ (n *ℤ n)) *ℤ dot p p) ((pos 10000 *ℤ (e *ℤ e)) *ℤ dot l l) (pos 10000 *ℤ ((n *ℤ e) *ℤ dot l p))
    lengths = lengths_of m x y n e (dot p p) (dot l l) (dot l p) it

    less : (a b : ℤ) → a ≤ℤ b → (pos 0) ≤ℤ (b -ℤ a)
    less a b h = omega (arith, ints)

-- ---- for an arc

-- within so many hundredths of a nanometre, over n and e
abbrev pub ring_room : ℤ → ℤ → ℤ
ring_room deviation unit = (pos 100 *ℤ deviation +ℤ pos 118 *ℤ unit) +ℤ pos 400

-- a chord's depth, or that of the centre
record HasFloor (m x unit d : ℤ) : Type 0 where
  y : ℤ
  some : (pos 0) ≤ℤ y
  most : y ≤ℤ (pos 100 *ℤ m)
  room : (pos 100 *ℤ (x +ℤ pos 2) -ℤ y) ≤ℤ ring_room d unit
  deep : (n h : ℤ) → (pos 0) ≤ℤ h → IsDeep x (depth_of m unit) n h → ((n *ℤ n) *ℤ (y *ℤ y)) ≤ℤ (pos 10000 *ℤ h)

floor_of : (m x unit d : ℤ) → (x -ℤ m) ≤ℤ d → pos 1000 ≤ℤ m → pos 1000 ≤ℤ unit → HasFloor m x unit d
floor_of m x unit d near some wide = elim (split_lt (depth_of m unit) (pos 0)) [
  | inl under ↦ record { y = pos 0; some = low; most = none m some; room = centre m x unit d near under; deep = λ n h k deep. nothing n h k }
  | inr over ↦ record { y = depth_of m unit; some = over; most = most m unit wide; room = room m x unit d near; deep = λ n h k deep. deep.deep over }
]
  where
    low : (pos 0) ≤ℤ (pos 0)
    low = omega (arith, ints)

    none : (m : ℤ) → pos 1000 ≤ℤ m → (pos 0) ≤ℤ (pos 100 *ℤ m)
    none m h = omega (arith, ints)

    centre : (m x unit d : ℤ) → (x -ℤ m) ≤ℤ d → depth_of m unit <ℤ (pos 0) → (pos 100 *ℤ (x +ℤ pos 2) -ℤ pos 0) ≤ℤ ring_room d unit
    centre m x unit d h k = omega (arith, ints)

    room : (m x unit d : ℤ) → (x -ℤ m) ≤ℤ d → (pos 100 *ℤ (x +ℤ pos 2) -ℤ depth_of m unit) ≤ℤ ring_room d unit
    room m x unit d h = omega (arith, ints)

    most : (m unit : ℤ) → pos 1000 ≤ℤ unit → depth_of m unit ≤ℤ (pos 100 *ℤ m)
    most m unit h = omega (arith, ints)

    zero_square : (n : ℤ) → (n *ℤ n) *ℤ (pos 0 *ℤ pos 0) ≡ pos 0
    zero_square n = *ℤ_comm (n *ℤ n) (pos 0) ∙ zero-mul-ℤ (n *ℤ n)

    nothing : (n h : ℤ) → (pos 0) ≤ℤ h → ((n *ℤ n) *ℤ (pos 0 *ℤ pos 0)) ≤ℤ (pos 10000 *ℤ h)
    nothing n h k = subst (λ (t : ℤ). t ≤ℤ (pos 10000 *ℤ h)) (sym (zero_square n)) (mul_nonneg-ℤ (pos 10000) h (omega (arith, ints)) k)

-- a point of the ring and the chord's point in its direction are near each other
pub ring_near : (arc : Arc) (s : Sector) (x : Vector) (k n e : ℤ) → IsChordOf arc s → IsMoment k n → (pos 0) <ℤ e → IsAlong (on_chord s k n) x → IsInRing arc e x
    → Near ((n *ℤ e) *ℤ ring_room (deviation_of arc) (nanometres_of arc.unit))
    (pos 100 *ℤ (e *ℤ (on_chord s k n).first -ℤ n *ℤ x.first)) (pos 100 *ℤ (e *ℤ (on_chord s k n).second -ℤ n *ℤ x.second))
ring_near arc s x k n e chord moment e_some along ring =
    let m = least_radius arc in
    let far = greatest_radius arc in
    let unit = nanometres_of arc.unit in
    let it = arc_ring arc chord.arc_ok chord.sound in
    let deep = chord_deep arc.counterclockwise m far (mean_radius arc) unit s k n it (unit_least arc.unit) (chord_short arc s chord) moment in
    let floor = floor_of m far unit (deviation_of arc) chord.sound.near it.some (unit_least arc.unit) in
    let square_of = along_square (on_chord s k n) x along.across in
    let inner = ring_inner arc chord.arc_ok chord.sound e (dot x x) ring.inner in
    let g_some = through_less (pos 0) ((e *ℤ e) *ℤ (m *ℤ m)) (dot x x) (mul_pos-ℤ (e *ℤ e) (m *ℤ m) (mul_pos-ℤ e e e_some e_some) (mul_pos-ℤ m m (some m it.some) (some m it.some))) inner in
    near_more _ ((n *ℤ e) *ℤ ring_room (deviation_of arc) unit) _ _
    (subst (λ (t : ℤ). t ≤ℤ ((n *ℤ e) *ℤ ring_room (deviation_of arc) unit)) (sym (taken_room n e (pos 100 *ℤ (far +ℤ pos 2)) floor.y)) (room_least n e (pos 100 *ℤ (far +ℤ pos 2) -ℤ floor.y) (ring_room (deviation_of arc) unit) moment.some e_some floor.room))
    (along_near m far floor.y n e (on_chord s k n) x (record {
      n_some = moment.some;
      e_some = e_some;
      m_some = it.some;
      x_some = through m (mean_radius arc) far it.least it.most;
      g_some = g_some;
      h_some = along_some (dot x x) (dot (on_chord s k n) (on_chord s k n)) (dot (on_chord s k n) x) (up_to (dot x x) g_some) along.onward square_of;
      s_some = along.onward;
      g_least = inner;
      g_most = ring_outer arc chord.arc_ok chord.sound e (dot x x) ring.outer;
      h_most = deep.most;
      h_least = floor.deep n (dot (on_chord s k n) (on_chord s k n)) (square_least (on_chord s k n)) deep;
      y_some = floor.some;
      y_most = floor.most;
      along = square_of;
    }))
  where
    some : (m : ℤ) → pos 1000 ≤ℤ m → (pos 0) <ℤ m
    some m h = omega (arith, ints)

    through_less : (a b c : ℤ) → a <ℤ b → b ≤ℤ c → a <ℤ c
    through_less a b c h k = omega (arith, ints)

-- ---- the tip

-- the tip is near the point of the plane: the way to it, by the chord's point, times 10,000
pub tip_by : (arc : Arc) (s : Sector) (centre x : Vector) (k n e r : ℤ) → IsMoment k n → (pos 0) <ℤ e
    → Near r (pos 100 *ℤ (e *ℤ (on_chord s k n).first -ℤ n *ℤ x.first)) (pos 100 *ℤ (e *ℤ (on_chord s k n).second -ℤ n *ℤ x.second))
    → Near (e *ℤ (pos 7072 *ℤ (n *ℤ nanometres_of arc.unit)) +ℤ pos 100 *ℤ r)
    (pos 10000 *ℤ (minus (times e (tip_on arc.unit centre s k n)) (times n (in_plane centre e x))).first)
    (pos 10000 *ℤ (minus (times e (tip_on arc.unit centre s k n)) (times n (in_plane centre e x))).second)
tip_by arc s centre x k n e r moment some near =
    let t = tip_on arc.unit centre s k n in
    let l = on_chord s k n in
    subst (λ (p : ℤ). Near (e *ℤ (pos 7072 *ℤ (n *ℤ nanometres_of arc.unit)) +ℤ pos 100 *ℤ r) p (pos 10000 *ℤ (e *ℤ t.second -ℤ n *ℤ (e *ℤ centre.second +ℤ x.second)))) (sym (difference_is e t.first n centre.first l.first x.first))
    (subst (λ (p : ℤ). Near (e *ℤ (pos 7072 *ℤ (n *ℤ nanometres_of arc.unit)) +ℤ pos 100 *ℤ r) (e *ℤ (pos 10000 *ℤ (t.first -ℤ (n *ℤ centre.first +ℤ l.first))) +ℤ pos 100 *ℤ (pos 100 *ℤ (e *ℤ l.first -ℤ n *ℤ x.first))) p)
    (sym (difference_is e t.second n centre.second l.second x.second))
    (near_sum _ _ _ _ _ _ (near_times e _ _ _ (up_to e some) (tip_near arc.unit centre s k n moment)) (near_times (pos 100) r _ _ (omega (arith, ints)) near)))

within_of : (tenths n e a b : ℤ) → Near (n *ℤ (e *ℤ tenths)) (pos 10 *ℤ a) (pos 10 *ℤ b) → (pos 100 *ℤ (a *ℤ a +ℤ b *ℤ b)) ≤ℤ square (n *ℤ (e *ℤ tenths))
within_of tenths n e a b h = subst (λ (t : ℤ). t ≤ℤ square (n *ℤ (e *ℤ tenths))) (hundred_square a b) h.near

tens : (r a b : ℤ) → (pos 0) ≤ℤ r → Near (pos 1000 *ℤ r) (pos 10000 *ℤ a) (pos 10000 *ℤ b) → Near r (pos 10 *ℤ a) (pos 10 *ℤ b)
tens r a b some h = near_parts (pos 1000) r (pos 10 *ℤ a) (pos 10 *ℤ b) (omega (arith, ints)) some
    (subst (λ (p : ℤ). Near (pos 1000 *ℤ r) p (pos 1000 *ℤ (pos 10 *ℤ b))) (ten_times a) (subst (λ (p : ℤ). Near (pos 1000 *ℤ r) (pos 10000 *ℤ a) p) (ten_times b) h))

-- the reach over n and e isn't negative
reach_some : (n e k t : ℤ) → (pos 0) <ℤ n → (pos 0) <ℤ e → pos 1000 ≤ℤ k → (pos 0) ≤ℤ t → (pos 0) ≤ℤ (n *ℤ (e *ℤ (k *ℤ (pos 10 *ℤ t +ℤ pos 19))))
reach_some n e k t hn he hk ht = mul_nonneg-ℤ n _ (up_to n hn) (mul_nonneg-ℤ e _ (up_to e he) (mul_nonneg-ℤ k _ (wide k hk) (tall t ht)))
  where
    wide : (k : ℤ) → pos 1000 ≤ℤ k → (pos 0) ≤ℤ k
    wide k h = omega (arith, ints)

    tall : (t : ℤ) → (pos 0) ≤ℤ t → (pos 0) ≤ℤ (pos 10 *ℤ t +ℤ pos 19)
    tall t h = omega (arith, ints)

pub counted : (n : ℕ) → (pos 0) ≤ℤ pos n
counted n = omega (arith, ints)

pub moment_is_near : MomentIsNear
moment_is_near arc s centre x k n e chord moment some along ring =
    let d = minus (times e (tip_on arc.unit centre s k n)) (times n (in_plane centre e x)) in
    let near = tip_by arc s centre x k n e _ moment some (ring_near arc s x k n e chord moment some along ring) in
    record {
      near = within_of (plane_reach arc) n e d.first d.second
          (tens (n *ℤ (e *ℤ plane_reach arc)) d.first d.second (reach_some n e (nanometres_of arc.unit) (pos arc.tolerance) moment.some some (unit_least arc.unit) (counted arc.tolerance))
          (near_more _ (pos 1000 *ℤ (n *ℤ (e *ℤ plane_reach arc))) _ _
          (moment_sum n e (nanometres_of arc.unit) (pos arc.tolerance) (deviation_of arc) moment.some some (unit_least arc.unit) refl) near));
    }

-- half a unit of height more
height_square : (unit : Unit) (h : ℤ) → (pos 4 *ℤ ((nanometres_of unit *ℤ nearest h (nat_abs (nanometres_of unit)) -ℤ h) *ℤ (nanometres_of unit *ℤ nearest h (nat_abs (nanometres_of unit)) -ℤ h))) ≤ℤ (nanometres_of unit *ℤ nanometres_of unit)
height_square unit h = let it = height_rounded unit h in halves_square (nanometres_of unit) (nanometres_of unit *ℤ nearest h (nat_abs (nanometres_of unit)) -ℤ h) it.most it.least

pub least_tolerance : (t : ℕ) → 1 ≤ t → pos 1 ≤ℤ pos t
least_tolerance t h = omega (arith, ints)

pub moment_is_near_in_space : MomentIsNearInSpace
moment_is_near_in_space arc s centre x height k n e chord moment some along ring =
    let d = minus (times e (tip_on arc.unit centre s k n)) (times n (in_plane centre e x)) in
    let unit = nanometres_of arc.unit in
    let h = nearest height (nat_abs unit) in
    let flat = moment_is_near arc s centre x k n e chord moment some along ring in
    record {
      near = with_height d.first d.second (e *ℤ (n *ℤ (unit *ℤ h)) -ℤ n *ℤ (e *ℤ height)) (n *ℤ (e *ℤ plane_reach arc)) (n *ℤ (e *ℤ unit)) (n *ℤ (e *ℤ space_reach arc))
          flat.near (height_near n e unit h height (height_square arc.unit height)) (moment_room n e unit (pos arc.tolerance) (least_tolerance arc.tolerance chord.arc_ok.tolerance_least));
    }
