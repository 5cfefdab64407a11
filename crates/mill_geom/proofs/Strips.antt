-- One point of the strip between the cylinder's two sides, from a spot under each of them, and the side along x that it shows.
use Rattle.std.proofs.Common.{◌≡◌, inl, inr, sym, ◌∙◌, subst, arith}
use lib.IntN.{ℤ, pos, ◌+ℤ◌, ◌-ℤ◌, ◌*ℤ◌}
use lib.Signed.{◌<ℤ◌, ◌≤ℤ◌}
use Rattle.std.proofs.lemmas.Int.{ints}
use Rattle.mill_base.specs.Numbers.{square}
use Rattle.mill_base.proofs.Exit.{split_lt}
use Rattle.mill_base.proofs.Integers.{mul_pos-ℤ}
use Rattle.mill_geom.specs.declared.offset.Offset.{Offset}
use Rattle.mill_geom.specs.declared.spot.Spot.{Spot}
use Rattle.mill_geom.specs.Offsets.{mean3}
use Rattle.mill_geom.specs.Forms.{IsOver}
use Rattle.mill_geom.specs.Contacts.{TouchesTriangle}
use Rattle.mill_geom.specs.Spots.{IsSpot, AllBeyond}
use Rattle.mill_geom.specs.Sides.{TouchesSlid, IsSpotUnder, IsBetween, slid_by, mirrored_of}
use Rattle.mill_geom.proofs.DescendCerts.{lin}
use Rattle.mill_geom.proofs.PlaceCerts.{far_high, swap_near}
use Rattle.mill_geom.proofs.SideCerts.{sum_time, side_weight}
use Rattle.mill_geom.proofs.StripCerts.{mirror_mean, mirror_near, low_near, high_near, low_some, high_some, low_place, high_place, cancels, mixed_mirror, axis_near}
use Rattle.mill_geom.proofs.Corners.{Closed, opened, turn_closed, turn_touch}
use Rattle.mill_geom.proofs.Sides.{Strip, more_side, less_side}

weak : (x : ℤ) → (pos 0) <ℤ x → (pos 0) ≤ℤ x
weak x h = omega (arith, ints)

-- with every point on the level or over it beyond r, there is no touch at any place along x
pub beyond_never : (r : ℤ) (a b c : Offset) → (pos 0) <ℤ r → AllBeyond r a b c → (t : ℤ) → TouchesSlid r a b c t → ⊥
beyond_never r a b c hr far t v =
    let n = (v.u +ℤ v.v) +ℤ v.w in
    let x = (mean3 v.u v.v v.w (slid_by t a) (slid_by t b) (slid_by t c)).x in
    let y = (mean3 v.u v.v v.w a b c).y in
    far_high y x r n (weak r hr) (weak n v.some) (far v.u v.v v.w v.u_ok v.v_ok v.w_ok (weak _ v.inside.over)) (swap_near x y _ v.inside.near)

-- the mirror image of a touch
pub mirror_touch : (r : ℤ) (a b c : Offset) → TouchesTriangle r a b c → TouchesTriangle r (mirrored_of a) (mirrored_of b) (mirrored_of c)
mirror_touch r a b c v = record {
  u = v.u;
  v = v.v;
  w = v.w;
  u_ok = v.u_ok;
  v_ok = v.v_ok;
  w_ok = v.w_ok;
  some = v.some;
  inside = record {
    near = mirror_near (mean3 v.u v.v v.w a b c).x (mean3 v.u v.v v.w a b c).y _ _ (mirror_mean v.u v.v v.w a.y b.y c.y) v.inside.near;
    over = v.inside.over;
  };
}

-- with every point's mirror image beyond r, there is none either
pub mirror_never : (r : ℤ) (a b c : Offset) → (pos 0) <ℤ r → AllBeyond r (mirrored_of a) (mirrored_of b) (mirrored_of c) → (t : ℤ) → TouchesSlid r a b c t → ⊥
mirror_never r a b c hr far t v =
    beyond_never r (mirrored_of a) (mirrored_of b) (mirrored_of c) hr far t (mirror_touch r (slid_by t a) (slid_by t b) (slid_by t c) v)

-- the first spot itself is in the strip
pub low_between : (r : ℤ) (low high : Spot) → IsSpotUnder r low → (pos 0 -ℤ r *ℤ low.n) <ℤ low.y → IsBetween r low high low.x
low_between r low high s h = record {
  k = pos 1;
  m = pos 0;
  k_ok = omega (arith, ints);
  m_ok = omega (arith, ints);
  some = low_some low.n high.n s.some;
  near = low_near low.y high.y low.n high.n r h s.under;
  place = low_place low.x high.x;
}

-- the second one's mirror image is
pub high_between : (r : ℤ) (low high : Spot) → IsSpotUnder r high → (pos 0 -ℤ r *ℤ high.n) <ℤ high.y → IsBetween r low high high.x
high_between r low high s h = record {
  k = pos 0;
  m = pos 1;
  k_ok = omega (arith, ints);
  m_ok = omega (arith, ints);
  some = high_some high.n low.n s.some;
  near = high_near high.y low.y high.n low.n r h s.under;
  place = high_place high.x low.x;
}

-- a number under minus a product of positive ones
under : (r n y : ℤ) → (pos 0) <ℤ r → (pos 0) <ℤ n → y ≤ℤ (pos 0 -ℤ r *ℤ n) → (pos 0) <ℤ (pos 0 -ℤ y)
under r n y hr hn h = opposed (r *ℤ n) y (mul_pos-ℤ r n hr hn) h
  where
    opposed : (p y : ℤ) → (pos 0) <ℤ p → y ≤ℤ (pos 0 -ℤ p) → (pos 0) <ℤ (pos 0 -ℤ y)
    opposed p y hp h = omega (arith, ints)

added : (x y : ℤ) → (pos 0) <ℤ x → (pos 0) <ℤ y → (pos 0) <ℤ (x +ℤ y)
added x y hx hy = omega (arith, ints)

-- else they are weighed so that the sum is on the plane along x
pub mixed_between : (r : ℤ) (low high : Spot) (x : ℤ) → (pos 0) <ℤ r → IsSpotUnder r low → IsSpotUnder r high → low.y ≤ℤ (pos 0 -ℤ r *ℤ low.n) → high.y ≤ℤ (pos 0 -ℤ r *ℤ high.n)
    → x ≡ (pos 0 -ℤ high.y) *ℤ low.x +ℤ (pos 0 -ℤ low.y) *ℤ high.x → IsBetween r low high x
mixed_between r low high x hr sl sh hl hh e =
    let k_some = under r high.n high.y hr sh.some hh in
    let m_some = under r low.n low.y hr sl.some hl in
    let some = added _ _ (mul_pos-ℤ _ low.n k_some sl.some) (mul_pos-ℤ _ high.n m_some sh.some) in
    record {
      k = pos 0 -ℤ high.y;
      m = pos 0 -ℤ low.y;
      k_ok = weak _ k_some;
      m_ok = weak _ m_some;
      some = some;
      near = subst (λ z. z <ℤ (square r *ℤ square ((pos 0 -ℤ high.y) *ℤ low.n +ℤ (pos 0 -ℤ low.y) *ℤ high.n))) (sym (cancels low.y high.y)) (mul_pos-ℤ _ _ (mul_pos-ℤ r r hr hr) (mul_pos-ℤ _ _ some some));
      place = e;
    }

-- a point of the strip, and its x
pub record StripAt (r : ℤ) (a b c : Offset) (x : ℤ) : Type 0 where
  pub strip : Strip r a b c
  pub x_is : (mean3 strip.u strip.v strip.w a b c).x ≡ x

near_one : (Y S y s r : ℤ) → Y ≡ y → S ≡ s → square y <ℤ (square r *ℤ square s) → square Y <ℤ (square r *ℤ square S)
near_one Y S y s r ey es h = rw (ey, es) h

sum_is : (k m P Q g h S : ℤ) → S ≡ k *ℤ P +ℤ m *ℤ Q → g ≡ P → h ≡ Q → S ≡ k *ℤ g +ℤ m *ℤ h
sum_is k m P Q g h S e eg eh = rw (eg, eh) e

mirror_sum : (k m P Q y h M : ℤ) → M ≡ k *ℤ P +ℤ m *ℤ Q → y ≡ P → h ≡ pos 0 -ℤ Q → M ≡ k *ℤ y -ℤ m *ℤ h
mirror_sum k m P Q y h M e ey eh = rw (ey, eh) (e ∙ mixed_mirror k m P Q)

level_sum : (k m P Q : ℤ) → (pos 0) ≤ℤ k → (pos 0) ≤ℤ m → (pos 0) ≤ℤ P → (pos 0) ≤ℤ Q → (pos 0) ≤ℤ (k *ℤ P +ℤ m *ℤ Q)
level_sum k m P Q hk hm hp hq = side_weight k m P Q hk hm hp hq

-- the weighted sum of the spots is a point of the triangle
pub between_strip : (r : ℤ) (a b c : Offset) (low high : Spot) (x : ℤ) → IsSpot a b c low → IsSpot (mirrored_of a) (mirrored_of b) (mirrored_of c) high → IsBetween r low high x → StripAt r a b c x
between_strip r a b c low high x l h e =
    let u = e.k *ℤ l.u +ℤ e.m *ℤ h.u in
    let v = e.k *ℤ l.v +ℤ e.m *ℤ h.v in
    let w = e.k *ℤ l.w +ℤ e.m *ℤ h.w in
    let P = mean3 l.u l.v l.w a b c in
    let Q = mean3 h.u h.v h.w a b c in
    let total = sum_is e.k e.m _ _ low.n high.n ((u +ℤ v) +ℤ w) (sum_time e.k e.m l.u l.v l.w h.u h.v h.w) l.time h.time in
    record {
      strip = record {
        u = u;
        v = v;
        w = w;
        u_ok = side_weight e.k e.m l.u h.u e.k_ok e.m_ok l.u_ok h.u_ok;
        v_ok = side_weight e.k e.m l.v h.v e.k_ok e.m_ok l.v_ok h.v_ok;
        w_ok = side_weight e.k e.m l.w h.w e.k_ok e.m_ok l.w_ok h.w_ok;
        some = subst (λ z. (pos 0) <ℤ z) (sym total) e.some;
        near = near_one (mean3 u v w a b c).y ((u +ℤ v) +ℤ w) (e.k *ℤ low.y -ℤ e.m *ℤ high.y) (e.k *ℤ low.n +ℤ e.m *ℤ high.n) r
            (mirror_sum e.k e.m P.y Q.y low.y high.y _ (lin e.k e.m l.u l.v l.w h.u h.v h.w a.y b.y c.y) l.y_is (h.y_is ∙ mirror_mean h.u h.v h.w a.y b.y c.y)) total e.near;
        level = subst (λ z. (pos 0) ≤ℤ z) (sym (lin e.k e.m l.u l.v l.w h.u h.v h.w a.z b.z c.z)) (level_sum e.k e.m P.z Q.z e.k_ok e.m_ok l.level h.level);
      };
      x_is = sum_is e.k e.m P.x Q.x low.x high.x _ (lin e.k e.m l.u l.v l.w h.u h.v h.w a.x b.x c.x) l.x_is h.x_is ∙ sym e.place;
    }

-- where some corner is over the level, a near point on the level or over it gives a touch
closed_touch : (r : ℤ) (a b c : Offset) → (pos 0) <ℤ r → IsOver a b c → Closed r a b c → TouchesTriangle r a b c
closed_touch r a b c hr (inl h) s = opened r a b c hr h s
closed_touch r a b c hr (inr (inl h)) s = turn_touch r a b c (opened r b c a hr h (turn_closed r b c a (turn_closed r c a b s)))
closed_touch r a b c hr (inr (inr h)) s = turn_touch r a b c (turn_touch r b c a (opened r c a b hr h (turn_closed r c a b s)))

-- a point of the strip at the axis is near it
axis_touch : (r : ℤ) (a b c : Offset) → (pos 0) <ℤ r → IsOver a b c → StripAt r a b c (pos 0) → TouchesTriangle r a b c
axis_touch r a b c hr over s =
    let p = s.strip in
    closed_touch r a b c hr over (record {
      u = p.u;
      v = p.v;
      w = p.w;
      u_ok = p.u_ok;
      v_ok = p.v_ok;
      w_ok = p.w_ok;
      near = axis_near (mean3 p.u p.v p.w a b c).x (mean3 p.u p.v p.w a b c).y _ s.x_is p.near;
      level = p.level;
    })

-- a point of the strip at a greater x shows that the cylinder misses the triangle at each lesser position, too
pub strip_more : (r : ℤ) (a b c : Offset) (x : ℤ) → (pos 0) <ℤ r → (TouchesTriangle r a b c → ⊥) → StripAt r a b c x → (pos 0) <ℤ x → (t : ℤ) → t ≤ℤ pos 0 → TouchesSlid r a b c t → ⊥
strip_more r a b c x hr apart s hx t ht v = apart (more_side r a b c t hr s.strip (subst (λ z. (pos 0) <ℤ z) (sym s.x_is) hx) ht v)

zero : (x : ℤ) → x ≤ℤ pos 0 → (pos 0) ≤ℤ x → x ≡ pos 0
zero x h k = omega (arith, ints)

-- and one at any other x that it does so at each greater position: at 0 there would be a touch
pub strip_less : (r : ℤ) (a b c : Offset) (x : ℤ) → (pos 0) <ℤ r → IsOver a b c → (TouchesTriangle r a b c → ⊥) → StripAt r a b c x → x ≤ℤ pos 0 → (t : ℤ) → (pos 0) ≤ℤ t → TouchesSlid r a b c t → ⊥
strip_less r a b c x hr over apart s hx t ht v = elim (split_lt x (pos 0)) [
  | inl l ↦ apart (less_side r a b c t hr s.strip (subst (λ z. z <ℤ pos 0) (sym s.x_is) l) ht v)
  | inr l ↦ absurd (apart (axis_touch r a b c hr over (record { strip = s.strip; x_is = s.x_is ∙ zero x hx l })))
]
