-- An edge and the cone cutter: over the height at which the cone reaches its radius the cylinder's form decides, under it the cone's.
use Rattle.std.proofs.Common.{◌≡◌, ◌⊎◌, inl, inr, subst, arith}
use lib.IntN.{ℤ, pos, ◌+ℤ◌, ◌-ℤ◌, ◌*ℤ◌}
use lib.Signed.{◌<ℤ◌, ◌≤ℤ◌}
use Rattle.std.proofs.lemmas.Int.{ints}
use Rattle.mill_base.specs.Numbers.{square}
use Rattle.mill_base.specs.Cutters.{InCone, apart}
use Rattle.mill_base.specs.declared.points.Pt3.{Pt3}
use Rattle.mill_base.proofs.Exit.{split_lt}
use Rattle.mill_base.proofs.Integers.{sq-ℤ, mul_pos-ℤ}
use Rattle.mill_geom.specs.Offsets.{mean2}
use Rattle.mill_geom.proofs.LevelCerts.{some_of}
use Rattle.mill_contact_cone.specs.declared.corner.Cone.{Cone}
use Rattle.mill_contact_cone.specs.declared.corner.Corner.{Corner}
use Rattle.mill_contact_cone.specs.declared.quadratic.Form.{Form}
use Rattle.mill_contact_cone.specs.declared.quadratic.Blend.{Blend}
use Rattle.mill_contact_cone.specs.Cones.{IsCone, IsCornerOf, plain, TouchesEdge, HitsUpper, HitsLower}
use Rattle.mill_contact_cone.specs.inner.Quadratics.{turn_of, HitsBetween, IsUpperForm, IsLowerForm, IsStart}
use Rattle.mill_contact_cone.proofs.Sizes.{radius_positive, rise_positive, run_positive}
use Rattle.mill_contact_cone.proofs.Parts.{start_zone, start_back, start_apart}
use Rattle.mill_contact_cone.proofs.PartCerts.{last_before, last_height, turned_before, before_turned, turned_height, end_height_level, end_height_cut}
use Rattle.mill_contact_cone.proofs.ZoneCerts.{upper_height, upper_steep, lower_near, lower_height, lower_time, pair_near, near_pair, pair_steep, steep_pair, level_two, level_two_back, low_pair, high_pair, over_order, over_order_strict, flip_level, flip_level_back}

weak : (x : ℤ) → (pos 0) <ℤ x → (pos 0) ≤ℤ x
weak x h = omega (arith, ints)

opposed : (x : ℤ) → x ≤ℤ pos 0 → (pos 0) ≤ℤ (pos 0 -ℤ x)
opposed x h = omega (arith, ints)

sum : (u v : ℤ) → (pos 0) ≤ℤ u → (pos 0) ≤ℤ v → (pos 0) ≤ℤ (u +ℤ v)
sum u v hu hv = omega (arith, ints)

one : (x : ℤ) → x ≡ pos 1 → (pos 0) <ℤ x
one x e = omega (arith, ints)

-- ---- the zones are those of the forms

pub part_upper : (k : Cone) (p q : Corner) (f : Form) (from to : Blend) → IsUpperForm k p q f → IsStart p.over q.over from → to.u ≡ pos 0 → to.v ≡ pos 1 → (pos 0) <ℤ q.over → HitsBetween f from to → HitsUpper k p q
part_upper k p q f from to i s eu ev hq t = record {
  u = t.u;
  v = t.v;
  u_ok = t.u_ok;
  v_ok = t.v_ok;
  near = pair_near p.x p.y q.x q.y k.radius f.a f.h f.b t.u t.v i.a_is i.h_is i.b_is t.negative;
  level = start_back p.over q.over from t.u t.v s (weak _ hq) t.u_ok t.v_ok t.after;
}

pub upper_part : (k : Cone) (p q : Corner) (f : Form) (from to : Blend) → IsUpperForm k p q f → IsStart p.over q.over from → to.u ≡ pos 0 → to.v ≡ pos 1 → HitsUpper k p q → HitsBetween f from to
upper_part k p q f from to i s eu ev t = record {
  u = t.u;
  v = t.v;
  u_ok = t.u_ok;
  v_ok = t.v_ok;
  after = start_zone p.over q.over from t.u t.v s t.v_ok t.level;
  before = last_before to.u to.v t.u t.v eu ev t.u_ok;
  negative = near_pair p.x p.y q.x q.y k.radius f.a f.h f.b t.u t.v i.a_is i.h_is i.b_is t.near;
}

pub upper_apart : (f g : ℤ) (from to : Blend) → IsStart f g from → to.u ≡ pos 0 → to.v ≡ pos 1 → (pos 0) <ℤ g → (pos 0) <ℤ turn_of from to
upper_apart f g from to s eu ev hg = start_apart f g from to.u to.v s (one _ ev) (last_height f g to.u to.v eu ev hg)

pub part_lower : (k : Cone) (p q : Corner) (f : Form) (from back to : Blend) → IsLowerForm k p q f → IsStart p.z q.z from → IsStart (pos 0 -ℤ q.over) (pos 0 -ℤ p.over) back → to.u ≡ back.v → to.v ≡ back.u
    → (pos 0) <ℤ q.z → p.over ≤ℤ pos 0 → HitsBetween f from to → HitsLower k p q
part_lower k p q f from back to i s e eu ev hq hp t = record {
  u = t.u;
  v = t.v;
  u_ok = t.u_ok;
  v_ok = t.v_ok;
  steep = pair_steep p.x p.y p.z q.x q.y q.z k.rise k.run f.a f.h f.b t.u t.v i.a_is i.h_is i.b_is t.negative;
  height = start_back p.z q.z from t.u t.v s (weak _ hq) t.u_ok t.v_ok t.after;
  level = flip_level t.u t.v p.over q.over (start_back (pos 0 -ℤ q.over) (pos 0 -ℤ p.over) back t.v t.u e (opposed _ hp) t.v_ok t.u_ok (turned_before to.u to.v back.u back.v t.u t.v eu ev t.before));
}

pub lower_part : (k : Cone) (p q : Corner) (f : Form) (from back to : Blend) → IsLowerForm k p q f → IsStart p.z q.z from → IsStart (pos 0 -ℤ q.over) (pos 0 -ℤ p.over) back → to.u ≡ back.v → to.v ≡ back.u
    → HitsLower k p q → HitsBetween f from to
lower_part k p q f from back to i s e eu ev t = record {
  u = t.u;
  v = t.v;
  u_ok = t.u_ok;
  v_ok = t.v_ok;
  after = start_zone p.z q.z from t.u t.v s t.v_ok t.height;
  before = before_turned to.u to.v back.u back.v t.u t.v eu ev (start_zone (pos 0 -ℤ q.over) (pos 0 -ℤ p.over) back t.v t.u e t.u_ok (flip_level_back t.u t.v p.over q.over t.level));
  negative = steep_pair p.x p.y p.z q.x q.y q.z k.rise k.run f.a f.h f.b t.u t.v i.a_is i.h_is i.b_is t.steep;
}

-- where some point is under the height of the rim, the two blends are apart
pub lower_apart : (k : Cone) (p q : Corner) (from back to : Blend) → IsCone k → IsCornerOf k p → IsCornerOf k q → IsStart p.z q.z from → IsStart (pos 0 -ℤ q.over) (pos 0 -ℤ p.over) back → to.u ≡ back.v → to.v ≡ back.u
    → (pos 0) <ℤ q.z → (q.over ≤ℤ pos 0) ⊎ (p.over <ℤ pos 0) → (pos 0) <ℤ turn_of from to
lower_apart k p q from back to c ep eq s e eu ev hq under = start_apart p.z q.z from to.u to.v s (ahead e under) (turned_height to.u to.v back.u back.v p.z q.z eu ev (height e under))
  where
    same : (x y : ℤ) → x ≡ y → (pos 0) <ℤ y → (pos 0) <ℤ x
    same x y e h = omega (arith, ints)

    cut : (x y : ℤ) → x ≡ (pos 0 -ℤ y) → y <ℤ pos 0 → (pos 0) <ℤ x
    cut x y e h = omega (arith, ints)

    not_both : (x : ℤ) → (pos 0 -ℤ x) <ℤ pos 0 → x ≤ℤ pos 0 → ⊥
    not_both x h k = omega (arith, ints)

    rising : (x y : ℤ) → x <ℤ pos 0 → (pos 0 -ℤ y) <ℤ pos 0 → x <ℤ y
    rising x y h k = omega (arith, ints)

    ahead : IsStart (pos 0 -ℤ q.over) (pos 0 -ℤ p.over) back → (q.over ≤ℤ pos 0) ⊎ (p.over <ℤ pos 0) → (pos 0) <ℤ to.v
    ahead (inl x) o = same to.v back.u ev (one _ x.1.0)
    ahead (inr x) (inl o) = absurd (not_both q.over x.0 o)
    ahead (inr x) (inr o) = same to.v back.u ev (cut back.u p.over x.1.0 o)

    height : IsStart (pos 0 -ℤ q.over) (pos 0 -ℤ p.over) back → (q.over ≤ℤ pos 0) ⊎ (p.over <ℤ pos 0) → (pos 0) <ℤ (back.v *ℤ p.z +ℤ back.u *ℤ q.z)
    height (inl x) o = end_height_level p.z q.z back.u back.v x.1.0 x.1.1 hq
    height (inr x) (inl o) = absurd (not_both q.over x.0 o)
    height (inr x) (inr o) = end_height_cut p.z q.z back.u back.v p.over q.over k.run (k.rise *ℤ k.radius) x.1.0 x.1.1 ep eq (mul_pos-ℤ k.rise k.radius (rise_positive k c) (radius_positive k c))
        (over_order_strict p.over q.over p.z q.z k.rise k.run k.radius ep eq (run_positive k c) (rising p.over q.over o x.0))

-- ---- the zones are the cutter's

-- at or over the height of the rim, what is in the cylinder is in the cutter
pub upper_inside : (k : Cone) (n : ℤ) (d : Pt3) → IsCone k → (pos 0) ≤ℤ n → apart d <ℤ (square k.radius *ℤ square n) → (k.rise *ℤ (k.radius *ℤ n)) ≤ℤ (k.run *ℤ d.z) → InCone k.radius k.rise k.run n d
upper_inside k n d c hn near level =
    let some = some_of d.x d.y n k.radius hn near in
    record {
      near = near;
      over = upper_height k.rise k.run k.radius n d.z (rise_positive k c) (run_positive k c) (radius_positive k c) some level;
      steep = upper_steep (apart d) k.rise k.run k.radius n d.z near (rise_positive k c) (radius_positive k c) some level;
    }

pub squares : (x y : ℤ) → (pos 0) ≤ℤ (x *ℤ x +ℤ y *ℤ y)
squares x y = let a = sq-ℤ x in let b = sq-ℤ y in omega (arith, ints)

-- at or under it, what is in the cone is in the cutter
pub lower_inside : (k : Cone) (n : ℤ) (d : Pt3) → IsCone k → (square k.rise *ℤ apart d) <ℤ (square k.run *ℤ square d.z) → (pos 0) ≤ℤ d.z → (k.run *ℤ d.z) ≤ℤ (k.rise *ℤ (k.radius *ℤ n)) → InCone k.radius k.rise k.run n d
lower_inside k n d c steep height level = record {
  near = lower_near (apart d) k.rise k.run k.radius n d.z steep (rise_positive k c) (run_positive k c) height level;
  over = lower_height (apart d) k.rise k.run d.z steep (squares d.x d.y) height;
  steep = steep;
}

pub lower_some : (k : Cone) (n : ℤ) (d : Pt3) → IsCone k → (square k.rise *ℤ apart d) <ℤ (square k.run *ℤ square d.z) → (pos 0) ≤ℤ d.z → (k.run *ℤ d.z) ≤ℤ (k.rise *ℤ (k.radius *ℤ n)) → (pos 0) <ℤ n
lower_some k n d c steep height level =
    lower_time k.rise k.run k.radius n d.z (rise_positive k c) (run_positive k c) (radius_positive k c) (lower_height (apart d) k.rise k.run d.z steep (squares d.x d.y) height) level

pub upper_edge : (k : Cone) (p q : Corner) → IsCone k → IsCornerOf k p → IsCornerOf k q → HitsUpper k p q → TouchesEdge k p q
upper_edge k p q c ep eq t =
    let d = mean2 t.u t.v (plain p) (plain q) in
    let n = sum t.u t.v t.u_ok t.v_ok in
    record {
      u = t.u;
      v = t.v;
      u_ok = t.u_ok;
      v_ok = t.v_ok;
      some = some_of d.x d.y (t.u +ℤ t.v) k.radius n t.near;
      inside = upper_inside k (t.u +ℤ t.v) d c n t.near (level_two t.u t.v p.over q.over p.z q.z k.rise k.run k.radius ep eq t.level);
    }

pub lower_edge : (k : Cone) (p q : Corner) → IsCone k → IsCornerOf k p → IsCornerOf k q → HitsLower k p q → TouchesEdge k p q
lower_edge k p q c ep eq t =
    let d = mean2 t.u t.v (plain p) (plain q) in
    let level = level_two_back t.u t.v p.over q.over p.z q.z k.rise k.run k.radius ep eq t.level in
    record {
      u = t.u;
      v = t.v;
      u_ok = t.u_ok;
      v_ok = t.v_ok;
      some = lower_some k (t.u +ℤ t.v) d c t.steep t.height level;
      inside = lower_inside k (t.u +ℤ t.v) d c t.steep t.height level;
    }

-- a touch is in one zone or the other
pub edge_upper : (k : Cone) (p q : Corner) (t : TouchesEdge k p q) → (pos 0) ≤ℤ (t.u *ℤ p.over +ℤ t.v *ℤ q.over) → HitsUpper k p q
edge_upper k p q t h = record { u = t.u; v = t.v; u_ok = t.u_ok; v_ok = t.v_ok; near = t.inside.near; level = h }

pub edge_lower : (k : Cone) (p q : Corner) (t : TouchesEdge k p q) → (t.u *ℤ p.over +ℤ t.v *ℤ q.over) ≤ℤ pos 0 → HitsLower k p q
edge_lower k p q t h = record { u = t.u; v = t.v; u_ok = t.u_ok; v_ok = t.v_ok; steep = t.inside.steep; height = weak _ t.inside.over; level = h }

-- ---- an edge whose last end isn't lower than its first

ordered : (k : Cone) (p q : Corner) → IsCone k → IsCornerOf k p → IsCornerOf k q → p.z ≤ℤ q.z → p.over ≤ℤ q.over
ordered k p q c ep eq h = over_order p.over q.over p.z q.z k.rise k.run k.radius ep eq (run_positive k c) h

through : (x y : ℤ) → x ≤ℤ y → y ≤ℤ pos 0 → x ≤ℤ pos 0
through x y h k = omega (arith, ints)

-- all of it at or under the tip's height
pub edge_under : (k : Cone) (p q : Corner) → p.z ≤ℤ q.z → q.z ≤ℤ pos 0 → TouchesEdge k p q → ⊥
edge_under k p q h l t = clash _ (low_pair t.u t.v p.z q.z t.u_ok t.v_ok (through p.z q.z h l) l) t.inside.over
  where
    clash : (x : ℤ) → x ≤ℤ pos 0 → (pos 0) <ℤ x → ⊥
    clash x h k = omega (arith, ints)

-- all of it at or under the height at which the cone reaches its radius
pub edge_low : (k : Cone) (p q : Corner) → IsCone k → IsCornerOf k p → IsCornerOf k q → p.z ≤ℤ q.z → q.over ≤ℤ pos 0 → (HitsLower k p q → ⊥) → TouchesEdge k p q → ⊥
edge_low k p q c ep eq h l n t = n (edge_lower k p q t (low_pair t.u t.v p.over q.over t.u_ok t.v_ok (through p.over q.over (ordered k p q c ep eq h) l) l))

-- all of it at or over the height of the rim
pub edge_high : (k : Cone) (p q : Corner) → (pos 0) ≤ℤ p.over → (pos 0) <ℤ q.over → (HitsUpper k p q → ⊥) → TouchesEdge k p q → ⊥
edge_high k p q hp hq n t = n (edge_upper k p q t (high_pair t.u t.v p.over q.over t.u_ok t.v_ok hp (weak _ hq)))

-- through it
pub edge_both : (k : Cone) (p q : Corner) → (HitsUpper k p q → ⊥) → (HitsLower k p q → ⊥) → TouchesEdge k p q → ⊥
edge_both k p q m n t = elim (split_lt (t.u *ℤ p.over +ℤ t.v *ℤ q.over) (pos 0)) [ inl h ↦ n (edge_lower k p q t (below _ h)) | inr h ↦ m (edge_upper k p q t h) ]
  where
    below : (x : ℤ) → x <ℤ pos 0 → x ≤ℤ pos 0
    below x h = omega (arith, ints)

-- a point is inside at numbers that are equal to those at which it is
pub same_inside : (r a b n m x y z f g h : ℤ) → n ≡ m → x ≡ f → y ≡ g → z ≡ h → InCone r a b n (record { x = x; y = y; z = z }) → InCone r a b m (record { x = f; y = g; z = h })
same_inside r a b n m x y z f g h en ex ey ez i = rw (en, ex, ey, ez) at i

pub swap : (x y : ℤ) → x +ℤ y ≡ y +ℤ x
swap x y = omega (arith, ints)

-- the ends in the other order
abbrev pub edge_turned : (k : Cone) (p q : Corner) → TouchesEdge k p q → TouchesEdge k q p
edge_turned k p q t = record {
  u = t.v;
  v = t.u;
  u_ok = t.v_ok;
  v_ok = t.u_ok;
  some = subst (λ s. (pos 0) <ℤ s) (swap t.u t.v) t.some;
  inside = same_inside k.radius k.rise k.run (t.u +ℤ t.v) (t.v +ℤ t.u) _ _ _ _ _ _ (swap t.u t.v) (swap (t.u *ℤ p.x) (t.v *ℤ q.x)) (swap (t.u *ℤ p.y) (t.v *ℤ q.y)) (swap (t.u *ℤ p.z) (t.v *ℤ q.z)) t.inside;
}

-- where some point is under the height at which the cone reaches its radius, the lower end isn't over it
pub lower_under : (k : Cone) (p q : Corner) → IsCone k → IsCornerOf k p → IsCornerOf k q → p.z ≤ℤ q.z → (q.over ≤ℤ pos 0) ⊎ (p.over <ℤ pos 0) → p.over ≤ℤ pos 0
lower_under k p q c ep eq h (inl l) = through p.over q.over (ordered k p q c ep eq h) l
lower_under k p q c ep eq h (inr l) = omega (arith, ints)
