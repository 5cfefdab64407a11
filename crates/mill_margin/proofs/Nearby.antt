-- A machine that goes by the numbers of a program's text stays near the list's moves.
use Rattle.std.specs.Prelude.{◌≡◌, ◌⊎◌, ◌*◌, ◌≤◌, ◌<◌, ⊤, Bool, true, false, ℕ, ℤ, pos, nat_abs, ◌+ℤ◌, ◌-ℤ◌, ◌*ℤ◌, ◌<ℤ◌, ◌≤ℤ◌, cond, int_lt}
use Rattle.std.proofs.Common.{inl, inr, refl, sym, subst, arith}
use Rattle.std.proofs.lemmas.Int.{ints}
use Rattle.mill_base.proofs.Exit.{split_lt}
use Rattle.mill_base.proofs.Extremes.{greater_left, greater_right, lesser_left, lesser_right}
use Rattle.mill_base.proofs.Integers.{mul_nonneg-ℤ, mul_pos-ℤ}
use Rattle.mill_base.proofs.Tips.{moment_is_tip, tip_some}
use Rattle.mill_base.specs.Motion.{IsBetween, IsInBox, IsMoment, IsOnWay, IsTipBy, IsTipOf, bent, bent_kind, changes_two, tip_at}
use Rattle.mill_base.specs.Numbers.{lesser, greater}
use Rattle.mill_base.specs.Points.{point_at, times}
use Rattle.mill_base.specs.Rounded.{IsRounded, IsRoundedTo, twice_off}
use Rattle.mill_base.specs.declared.motion.Kind.{Kind}
use Rattle.mill_base.specs.declared.motion.Kind.TheVariants.{Rapid, Feed, Dogleg}
use Rattle.mill_base.specs.declared.motion.Move.{Move}
use Rattle.mill_base.specs.declared.points.Pt3.{Pt3}
use Rattle.mill_margin.specs.Margins.{IsWithin}
use Rattle.mill_margin.specs.Nearby.{IsTipNear, NearBentIsNear, NearTextIsNear, NearTwice, rounding_margin}
use Rattle.mill_margin.proofs.Boxes.{IsOnScaled, box_is_way, way_is_tip}
use Rattle.mill_margin.proofs.MarginCerts.{product_4}
use Rattle.mill_margin.proofs.NearbyCerts.{scaled_square, dot_most, sum_most, sum_unscaled, halves_within, scaled_within, half_square, way_least, way_most, way_width, box_width, box_least, box_most, lesser_end, greater_end, under_least, over_most, scaled_order}

-- the way from the first point to the second and that from the second to the third, over one denominator, and how long each may be
pub near_twice : NearTwice
near_twice a b m n l p q r ha hb hm hn hl first second =
    let x = l *ℤ (n *ℤ p.x -ℤ m *ℤ q.x) in
    let y = l *ℤ (n *ℤ p.y -ℤ m *ℤ q.y) in
    let z = l *ℤ (n *ℤ p.z -ℤ m *ℤ q.z) in
    let u = m *ℤ (l *ℤ q.x -ℤ n *ℤ r.x) in
    let v = m *ℤ (l *ℤ q.y -ℤ n *ℤ r.y) in
    let w = m *ℤ (l *ℤ q.z -ℤ n *ℤ r.z) in
    let one = l *ℤ (m *ℤ (n *ℤ a)) in
    let two = m *ℤ (n *ℤ (l *ℤ b)) in
    let one_square = scaled_square l (n *ℤ p.x -ℤ m *ℤ q.x) (n *ℤ p.y -ℤ m *ℤ q.y) (n *ℤ p.z -ℤ m *ℤ q.z) (m *ℤ (n *ℤ a)) first.near in
    let two_square = scaled_square m (l *ℤ q.x -ℤ n *ℤ r.x) (l *ℤ q.y -ℤ n *ℤ r.y) (l *ℤ q.z -ℤ n *ℤ r.z) (n *ℤ (l *ℤ b)) second.near in
    let dot = dot_most x y z u v w one two one_square two_square (product_4 l m n a hl hm hn ha) (product_4 m n l b hm hn hl hb) in
    record { near = sum_unscaled l m n a b p.x p.y p.z q.x q.y q.z r.x r.y r.z hn (sum_most x y z u v w one two one_square two_square dot) }

-- the number q over d is at most o/2, in parts of 1/d, from the number p, on either side
record IsOff (o d q p : ℤ) : Type 0 where
  under : (pos 2 *ℤ (d *ℤ p -ℤ q)) ≤ℤ o
  over : (pos 2 *ℤ (q -ℤ d *ℤ p)) ≤ℤ o

record AreOff (o d : ℤ) (q p : Pt3) : Type 0 where
  x : IsOff o d q.x p.x
  y : IsOff o d q.y p.y
  z : IsOff o d q.z p.z

off_of : (rounds : Bool) (d : ℕ) (q p : ℤ) → IsRoundedTo rounds d q p → IsOff (pos (twice_off rounds d)) (pos d) q p
off_of rounds d q p near = record { under = below q (pos d *ℤ p) (twice_off rounds d) near; over = above q (pos d *ℤ p) (twice_off rounds d) near }
  where
    below : (a b : ℤ) (o : ℕ) → 2 * nat_abs (a -ℤ b) ≤ o → (pos 2 *ℤ (b -ℤ a)) ≤ℤ pos o
    below a b o h = omega (arith, ints)

    above : (a b : ℤ) (o : ℕ) → 2 * nat_abs (a -ℤ b) ≤ o → (pos 2 *ℤ (a -ℤ b)) ≤ℤ pos o
    above a b o h = omega (arith, ints)

are_off : (rounds : Bool) (d : ℕ) (q p : Pt3) → IsRounded rounds d q p → AreOff (pos (twice_off rounds d)) (pos d) q p
are_off rounds d q p near = record { x = off_of rounds d q.x p.x near.x_near; y = off_of rounds d q.y p.y near.y_near; z = off_of rounds d q.z p.z near.z_near }

-- what rounding takes is no less than how far it goes
off_most : (rounds : Bool) (d : ℕ) → pos (twice_off rounds d) ≤ℤ (pos d *ℤ rounding_margin rounds)
off_most true d = omega (arith, ints)
off_most false d = omega (arith, ints)

-- points that are at most w/2 from each other along each axis, over both denominators, are no farther from each other than w
near_by_axes : (s w n g : ℤ) (p q : Pt3) → (pos 0) ≤ℤ w → w ≤ℤ (n *ℤ (g *ℤ s))
    → (pos 4 *ℤ ((g *ℤ p.x -ℤ n *ℤ q.x) *ℤ (g *ℤ p.x -ℤ n *ℤ q.x))) ≤ℤ (w *ℤ w)
    → (pos 4 *ℤ ((g *ℤ p.y -ℤ n *ℤ q.y) *ℤ (g *ℤ p.y -ℤ n *ℤ q.y))) ≤ℤ (w *ℤ w)
    → (pos 4 *ℤ ((g *ℤ p.z -ℤ n *ℤ q.z) *ℤ (g *ℤ p.z -ℤ n *ℤ q.z))) ≤ℤ (w *ℤ w)
    → IsWithin s n p g q
near_by_axes s w n g p q least most x y z = record {
  near = halves_within (g *ℤ p.x -ℤ n *ℤ q.x) (g *ℤ p.y -ℤ n *ℤ q.y) (g *ℤ p.z -ℤ n *ℤ q.z) w (n *ℤ (g *ℤ s)) x y z least most;
}

-- along each axis the tips of both are so at each moment
way_square : (e k d o f t a b : ℤ) → IsMoment k e → IsOff o d a f → IsOff o d b t
    → (pos 4 *ℤ (((e *ℤ d) *ℤ ((e -ℤ k) *ℤ f +ℤ k *ℤ t) -ℤ e *ℤ ((e -ℤ k) *ℤ a +ℤ k *ℤ b)) *ℤ ((e *ℤ d) *ℤ ((e -ℤ k) *ℤ f +ℤ k *ℤ t) -ℤ e *ℤ ((e -ℤ k) *ℤ a +ℤ k *ℤ b)))) ≤ℤ ((e *ℤ (e *ℤ o)) *ℤ (e *ℤ (e *ℤ o)))
way_square e k d o f t a b moment from to = half_square ((e *ℤ d) *ℤ ((e -ℤ k) *ℤ f +ℤ k *ℤ t) -ℤ e *ℤ ((e -ℤ k) *ℤ a +ℤ k *ℤ b)) (e *ℤ (e *ℤ o))
    (way_least e k d o f t a b moment.some moment.after moment.before from.over to.over)
    (way_most e k d o f t a b moment.some moment.after moment.before from.under to.under)

-- a number from l to g that is at most w/2 from v
record IsClamped (l g w v : ℤ) : Type 0 where
  c : ℤ
  least : l ≤ℤ c
  most : c ≤ℤ g
  down : (pos 2 *ℤ (c -ℤ v)) ≤ℤ w
  up : (pos 2 *ℤ (v -ℤ c)) ≤ℤ w

clamped : (l g w v : ℤ) → l ≤ℤ g → (pos 0) ≤ℤ w → (pos 2 *ℤ (l -ℤ v)) ≤ℤ w → (pos 2 *ℤ (v -ℤ g)) ≤ℤ w → IsClamped l g w v
clamped l g w v order some low high = elim (split_lt v l) [
  | inl under ↦ record { c = l; least = omega (arith, ints); most = order; down = low; up = omega (arith, ints) }
  | inr at_least ↦ elim (split_lt g v) [
    | inl over ↦ record { c = g; least = order; most = omega (arith, ints); down = omega (arith, ints); up = high }
    | inr at_most ↦ record { c = v; least = at_least; most = at_most; down = omega (arith, ints); up = omega (arith, ints) }
  ]
]

-- the ends of a box along an axis are rounded as the way's two ends are
lesser_off : (d o a b p q : ℤ) → (pos 0) <ℤ d → IsOff o d a p → IsOff o d b q → (pos 2 *ℤ (d *ℤ lesser p q -ℤ lesser a b)) ≤ℤ o
lesser_off d o a b p q some first second = by (int_lt b a)
  where
    by : (t : Bool) → (pos 2 *ℤ (d *ℤ lesser p q -ℤ cond t b a)) ≤ℤ o
    by true = lesser_end d o (lesser p q) q b some (lesser_right p q) second.under
    by false = lesser_end d o (lesser p q) p a some (lesser_left p q) first.under

greater_off : (d o a b p q : ℤ) → (pos 0) <ℤ d → IsOff o d a p → IsOff o d b q → (pos 2 *ℤ (greater a b -ℤ d *ℤ greater p q)) ≤ℤ o
greater_off d o a b p q some first second = by (int_lt a b)
  where
    by : (t : Bool) → (pos 2 *ℤ (cond t b a -ℤ d *ℤ greater p q)) ≤ℤ o
    by true = greater_end d o (greater p q) q b some (greater_right p q) second.over
    by false = greater_end d o (greater p q) p a some (greater_left p q) first.over

lesser_greater : (p q : ℤ) → lesser p q ≤ℤ greater p q
lesser_greater p q = through (lesser p q) p (greater p q) (lesser_left p q) (greater_left p q)
  where
    through : (a b c : ℤ) → a ≤ℤ b → b ≤ℤ c → a ≤ℤ c
    through a b c h k = omega (arith, ints)

up_to : (n : ℤ) → (pos 0) <ℤ n → (pos 0) ≤ℤ n
up_to n h = omega (arith, ints)

-- so a place of the way along an axis is near one of the rounded way
axis_clamped : (e d o a b p q v : ℤ) → (pos 0) <ℤ e → (pos 0) <ℤ d → (pos 0) ≤ℤ o → IsOff o d a p → IsOff o d b q → IsBetween a b e v
    → IsClamped ((e *ℤ d) *ℤ lesser p q) ((e *ℤ d) *ℤ greater p q) (e *ℤ o) v
axis_clamped e d o a b p q v some more off first second between = clamped ((e *ℤ d) *ℤ lesser p q) ((e *ℤ d) *ℤ greater p q) (e *ℤ o) v
    (scaled_order (e *ℤ d) (lesser p q) (greater p q) (mul_pos-ℤ e d some more) (lesser_greater p q))
    (mul_nonneg-ℤ e o (up_to e some) off)
    (under_least e d o (lesser p q) (lesser a b) v some between.least (lesser_off d o a b p q more first second))
    (over_most e d o (greater p q) (greater a b) v some between.most (greater_off d o a b p q more first second))

-- the same over both denominators, as a square
box_square : (g l m w v : ℤ) → (pos 0) <ℤ g → (a : IsClamped l m w v) → (pos 4 *ℤ ((g *ℤ a.c -ℤ g *ℤ v) *ℤ (g *ℤ a.c -ℤ g *ℤ v))) ≤ℤ ((g *ℤ w) *ℤ (g *ℤ w))
box_square g l m w v some a = half_square (g *ℤ a.c -ℤ g *ℤ v) (g *ℤ w) (box_least g w a.c v some a.up) (box_most g w a.c v some a.down)

-- where the way is of this kind, a tip of the move is near each tip of it: of a dogleg, where the move is one too or its ends differ along one axis at most
abbrev Fits : Kind → Move → Type 0
Fits Rapid m = ⊤
Fits Feed m = ⊤
Fits Dogleg m = (m.kind ≡ Dogleg) ⊎ (changes_two m ≡ false)

times_one : (n : ℤ) → n ≡ n *ℤ pos 1
times_one n = omega (arith, ints)

-- a tip of the move near a point
tip_near : (s : ℤ) (m : Move) (n g : ℤ) (t q : Pt3) → IsTipOf m n t → IsWithin s n t g q → IsTipNear s 1 m g q
tip_near s m n g t q is near = record { e = n; tip = t; is = is; near = subst (λ (v : ℤ). IsWithin s v t g q) (times_one n) near }

module _ (o d s : ℤ) (w m : Move) (some : (pos 0) <ℤ d) (off : (pos 0) ≤ℤ o) (wide : o ≤ℤ (d *ℤ s)) (from : AreOff o d w.from m.from) (to : AreOff o d w.to m.to) where
  -- on the straight way at the same moment
  near_way : (e : ℤ) (tip : Pt3) → IsOnWay w e tip → IsTipNear s 1 m (e *ℤ d) tip
  near_way e tip on = tip_near s m e (e *ℤ d) (tip_at m on.k e) tip (moment_is_tip m on.k e on.moment)
      (subst (λ (p : Pt3). IsWithin s e (tip_at m on.k e) (e *ℤ d) p) (sym on.place) (at_moment on.k on.moment))
    where
      at_moment : (k : ℤ) → IsMoment k e → IsWithin s e (tip_at m k e) (e *ℤ d) (tip_at w k e)
      at_moment k moment = near_by_axes s (e *ℤ (e *ℤ o)) e (e *ℤ d) (tip_at m k e) (tip_at w k e)
          (mul_nonneg-ℤ e (e *ℤ o) (up_to e moment.some) (mul_nonneg-ℤ e o (up_to e moment.some) off))
          (way_width e d o s wide)
          (way_square e k d o m.from.x m.to.x w.from.x w.to.x moment from.x to.x)
          (way_square e k d o m.from.y m.to.y w.from.y w.to.y moment from.y to.y)
          (way_square e k d o m.from.z m.to.z w.from.z w.to.z moment from.z to.z)

  -- in the box at the nearest place
  module _ (e : ℤ) (tip : Pt3) (box : IsInBox w e tip)
      (x : IsClamped ((e *ℤ d) *ℤ lesser m.from.x m.to.x) ((e *ℤ d) *ℤ greater m.from.x m.to.x) (e *ℤ o) tip.x)
      (y : IsClamped ((e *ℤ d) *ℤ lesser m.from.y m.to.y) ((e *ℤ d) *ℤ greater m.from.y m.to.y) (e *ℤ o) tip.y)
      (z : IsClamped ((e *ℤ d) *ℤ lesser m.from.z m.to.z) ((e *ℤ d) *ℤ greater m.from.z m.to.z) (e *ℤ o) tip.z) where
    all_some : (pos 0) <ℤ (e *ℤ d)
    all_some = mul_pos-ℤ e d box.some some

    nearest_in : IsInBox m (e *ℤ d) (point_at x.c y.c z.c)
    nearest_in = record {
      some = all_some;
      x = record { least = x.least; most = x.most };
      y = record { least = y.least; most = y.most };
      z = record { least = z.least; most = z.most };
    }

    nearest_near : IsWithin s (e *ℤ d) (point_at x.c y.c z.c) (e *ℤ d) tip
    nearest_near = near_by_axes s ((e *ℤ d) *ℤ (e *ℤ o)) (e *ℤ d) (e *ℤ d) (point_at x.c y.c z.c) tip
        (mul_nonneg-ℤ (e *ℤ d) (e *ℤ o) (up_to (e *ℤ d) all_some) (mul_nonneg-ℤ e o (up_to e box.some) off))
        (box_width e d o s some wide)
        (box_square (e *ℤ d) _ _ (e *ℤ o) tip.x all_some x)
        (box_square (e *ℤ d) _ _ (e *ℤ o) tip.y all_some y)
        (box_square (e *ℤ d) _ _ (e *ℤ o) tip.z all_some z)

    at_nearest : (m.kind ≡ Dogleg) ⊎ (changes_two m ≡ false) → IsTipNear s 1 m (e *ℤ d) tip
    at_nearest (inl dogleg) = tip_near s m (e *ℤ d) (e *ℤ d) (point_at x.c y.c z.c) tip (subst (λ (k : Kind). IsTipBy k m (e *ℤ d) (point_at x.c y.c z.c)) (sym dogleg) nearest_in) nearest_near
    at_nearest (inr one) = on_way (box_is_way m (e *ℤ d) (point_at x.c y.c z.c) one nearest_in)
      where
        on_way : IsOnScaled m (e *ℤ d) (point_at x.c y.c z.c) → IsTipNear s 1 m (e *ℤ d) tip
        on_way a = tip_near s m ((e *ℤ d) *ℤ a.h) (e *ℤ d) (times a.h (point_at x.c y.c z.c)) tip (way_is_tip m ((e *ℤ d) *ℤ a.h) (times a.h (point_at x.c y.c z.c)) a.on)
            (record { near = scaled_within a.h (e *ℤ d) (e *ℤ d) s x.c y.c z.c tip.x tip.y tip.z nearest_near.near })

  near_box : (e : ℤ) (tip : Pt3) → IsInBox w e tip → (m.kind ≡ Dogleg) ⊎ (changes_two m ≡ false) → IsTipNear s 1 m (e *ℤ d) tip
  near_box e tip box = at_nearest e tip box
      (axis_clamped e d o w.from.x w.to.x m.from.x m.to.x tip.x box.some some off from.x to.x box.x)
      (axis_clamped e d o w.from.y w.to.y m.from.y m.to.y tip.y box.some some off from.y to.y box.y)
      (axis_clamped e d o w.from.z w.to.z m.from.z m.to.z tip.z box.some some off from.z to.z box.z)

  near_tip : (kind : Kind) (e : ℤ) (tip : Pt3) → Fits kind m → IsTipBy kind w e tip → IsTipNear s 1 m (e *ℤ d) tip
  near_tip Rapid e tip fits on = near_way e tip on
  near_tip Feed e tip fits on = near_way e tip on
  near_tip Dogleg e tip fits box = near_box e tip box fits

turned_sum : (s t : ℤ) → (t +ℤ s) ≡ (s +ℤ t)
turned_sum s t = omega (arith, ints)

margin_least : (rounds : Bool) → (pos 0) ≤ℤ rounding_margin rounds
margin_least true = omega (arith, ints)
margin_least false = omega (arith, ints)

-- and a point near the first tip is near the second one
joined : (t s : ℤ) (m : Move) (g n : ℤ) (q r : Pt3) → (pos 0) ≤ℤ t → (pos 0) ≤ℤ s → (pos 0) <ℤ g → (pos 0) <ℤ n → IsTipNear t 1 m g q → IsWithin s g q n r → IsTipNear (s +ℤ t) 1 m n r
joined t s m g n q r ht hs hg hn a near = record {
  e = a.e;
  tip = a.tip;
  is = a.is;
  near = subst (λ (v : ℤ). IsWithin v (a.e *ℤ pos 1) a.tip n r) (turned_sum s t) (near_twice t s (a.e *ℤ pos 1) g n a.tip q r ht hs (subst (λ (v : ℤ). (pos 0) <ℤ v) (times_one a.e) (tip_some m a.e a.tip a.is)) hg hn a.near near);
}

counted : (d : ℕ) → 0 < d → (pos 0) <ℤ pos d
counted d h = omega (arith, ints)

counted_least : (d : ℕ) → (pos 0) ≤ℤ pos d
counted_least d = omega (arith, ints)

-- so it is of a way and the move that it is rounded to, by their ends
near_list : (rounds : Bool) (s n : ℤ) (d : ℕ) (w m : Move) (r : Pt3) → (pos 0) ≤ℤ s → (pos 0) <ℤ n → 0 < d → IsRounded rounds d w.from m.from → IsRounded rounds d w.to m.to → Fits w.kind m
    → IsTipNear s d w n r → IsTipNear (s +ℤ rounding_margin rounds) 1 m n r
near_list rounds s n d w m r hs hn hd from to fits a =
    joined (rounding_margin rounds) s m (a.e *ℤ pos d) n a.tip r (margin_least rounds) hs (mul_pos-ℤ a.e (pos d) (tip_some w a.e a.tip a.is) (counted d hd)) hn
    (near_tip (pos (twice_off rounds d)) (pos d) (rounding_margin rounds) w m (counted d hd) (counted_least (twice_off rounds d)) (off_most rounds d)
    (are_off rounds d w.from m.from from) (are_off rounds d w.to m.to to) w.kind a.e a.tip fits a.is)
    a.near

-- a move of the way's own kind
fits_same : (m : Move) (kind : Kind) → kind ≡ m.kind → Fits kind m
fits_same m Rapid e = tt
fits_same m Feed e = tt
fits_same m Dogleg e = inl (sym e)

pub near_text_is_near : NearTextIsNear
near_text_is_near rounds s n d w m r hs hn hd rounded near = near_list rounds s n d w m r hs hn hd rounded.from rounded.to (fits_same m w.kind rounded.kind) near

-- and of the kinds that the two have where the axes run apart
fits_bent : (m : Move) (kind : Kind) (two : Bool) → kind ≡ m.kind → Fits (bent_kind kind two) (bent m)
fits_bent m Rapid true e = by (changes_two m) refl
  where
    by : (t : Bool) → changes_two m ≡ t → Fits Dogleg (bent m)
    by true two = inl (subst (λ (k : Kind). bent_kind k (changes_two m) ≡ Dogleg) e (subst (λ (t : Bool). bent_kind Rapid t ≡ Dogleg) (sym two) refl))
    by false one = inr one
fits_bent m Rapid false e = tt
fits_bent m Feed two e = tt
fits_bent m Dogleg two e = inl (subst (λ (k : Kind). bent_kind k (changes_two m) ≡ Dogleg) e refl)

pub near_bent_is_near : NearBentIsNear
near_bent_is_near rounds s n d w m r hs hn hd rounded near = near_list rounds s n d (bent w) (bent m) r hs hn hd rounded.from rounded.to (fits_bent m w.kind (changes_two w) rounded.kind) near
