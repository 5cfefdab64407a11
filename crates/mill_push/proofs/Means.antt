-- A triangle is touched between two positions at which it is: a mean of two points that a cutter holds is held.
use Rattle.std.proofs.Common.{◌≡◌, ◌⊎◌, inl, inr, sym, ap₂, ◌∙◌, subst, subst₂, arith}
use Rattle.std.proofs.lemmas.Int.{ints, by_lt_z}
use lib.IntN.{ℤ, pos, ◌+ℤ◌, ◌-ℤ◌, ◌*ℤ◌}
use lib.Signed.{◌<ℤ◌, ◌≤ℤ◌}
use Rattle.mill_base.specs.Numbers.{square}
use Rattle.mill_base.specs.Points.{IsPointOf, plus, minus, times}
use Rattle.mill_base.specs.Cutters.{Inside, InBall, apart}
use Rattle.mill_base.specs.declared.points.Pt3.{Pt3}
use Rattle.mill_base.specs.declared.points.Tri.{Tri}
use Rattle.mill_base.specs.declared.cutter.Cutter.{Cutter}
use Rattle.mill_base.specs.declared.cutter.Cutter.TheVariants.{Flat, Ball, Cone}
use Rattle.mill_base.proofs.Integers.{mul_nonneg-ℤ, sq-ℤ}
use Rattle.mill_geom.specs.declared.touch.Axis.{Axis}
use Rattle.mill_geom.specs.declared.touch.Axis.TheVariants.{X, Y}
use Rattle.mill_push.specs.declared.fiber.Fiber.{Fiber}
use Rattle.mill_push.specs.Fibers.{IsTouched, place_on, tip_on}
use Rattle.mill_push.specs.Stretches.{OneStretch}
use Rattle.mill_push.proofs.MeanCerts.{weights_mixed, place_mixed, sum_mixed, some_mixed, share, near_product, near_mixed, steep_product, steep_mixed, sphere_product, sphere_mixed, high_mixed, high_sphere_mixed, sphere_high_mixed, moved_along, moved_across, one_mixed}

-- i times the one and j times the other
abbrev mixed : ℤ → ℤ → Pt3 → Pt3 → Pt3
mixed i j p q = plus (times i p) (times j q)

not_negative : (a : ℤ) → (pos 0) <ℤ a → (pos 0) ≤ℤ a
not_negative a h = omega (arith, ints)

module _ (n m i j : ℤ) (hn : (pos 0) <ℤ n) (hm : (pos 0) <ℤ m) (hi : (pos 0) ≤ℤ i) (hj : (pos 0) ≤ℤ j) (hs : (pos 0) <ℤ (i +ℤ j)) where
  -- nearer than l to the axis
  near : (l : ℤ) (d e : Pt3) → apart d <ℤ (l *ℤ square n) → apart e <ℤ (l *ℤ square m) → apart (mixed i j d e) <ℤ (l *ℤ square (i *ℤ n +ℤ j *ℤ m))
  near l d e h k =
      near_mixed d.x d.y e.x e.y l n m i j hi hj hs h k (near_product d.x d.y e.x e.y l n m (not_negative n hn) (not_negative m hm) hn hm h k)

  -- over a centre, or in the sphere about it
  over : (r : ℤ) (d e : Pt3) → InBall r n d → InBall r m e
      → ((r *ℤ (i *ℤ n +ℤ j *ℤ m)) ≤ℤ (mixed i j d e).z)
      ⊎ ((apart (mixed i j d e) +ℤ square ((mixed i j d e).z -ℤ r *ℤ (i *ℤ n +ℤ j *ℤ m))) <ℤ (square r *ℤ square (i *ℤ n +ℤ j *ℤ m)))
  over r d e h k = by_lt_z (i *ℤ d.z +ℤ j *ℤ e.z) (r *ℤ (i *ℤ n +ℤ j *ℤ m)) (λ under. inr (low under h.over k.over)) (λ high. inl high)
    where
      zn : (pos 0) ≤ℤ n
      zn = not_negative n hn

      zm : (pos 0) ≤ℤ m
      zm = not_negative m hm

      low : (i *ℤ d.z +ℤ j *ℤ e.z) <ℤ (r *ℤ (i *ℤ n +ℤ j *ℤ m))
          → ((r *ℤ n) ≤ℤ d.z) ⊎ ((apart d +ℤ square (d.z -ℤ r *ℤ n)) <ℤ (square r *ℤ square n))
          → ((r *ℤ m) ≤ℤ e.z) ⊎ ((apart e +ℤ square (e.z -ℤ r *ℤ m)) <ℤ (square r *ℤ square m))
          → (apart (mixed i j d e) +ℤ square ((mixed i j d e).z -ℤ r *ℤ (i *ℤ n +ℤ j *ℤ m))) <ℤ (square r *ℤ square (i *ℤ n +ℤ j *ℤ m))
      low under (inl a) (inl b) = absurd (against (i *ℤ d.z +ℤ j *ℤ e.z) (r *ℤ (i *ℤ n +ℤ j *ℤ m)) under (high_mixed d.z e.z r n m i j hi hj a b))
        where
          against : (a b : ℤ) → a <ℤ b → b ≤ℤ a → ⊥
          against a b h k = omega (arith, ints)
      low under (inl a) (inr b) =
          high_sphere_mixed d.x d.y d.z e.x e.y e.z r n m i j hi hj hs a under h.near b (near_product d.x d.y e.x e.y (r *ℤ r) n m zn zm hn hm h.near k.near)
      low under (inr a) (inl b) =
          sphere_high_mixed d.x d.y d.z e.x e.y e.z r n m i j hi hj hs b under a k.near (near_product d.x d.y e.x e.y (r *ℤ r) n m zn zm hn hm h.near k.near)
      low under (inr a) (inr b) =
          sphere_mixed d.x d.y d.z e.x e.y e.z r n m i j hi hj hs a b
          (sphere_product d.x d.y (d.z -ℤ r *ℤ n) e.x e.y (e.z -ℤ r *ℤ m) (r *ℤ r) n m zn zm hn hm a b)

  inside_mixed : (cutter : Cutter) (d e : Pt3) → Inside cutter n d → Inside cutter m e → Inside cutter (i *ℤ n +ℤ j *ℤ m) (mixed i j d e)
  inside_mixed (Flat r) d e h k = record { near = near (square r) d e h.near k.near; over = some_mixed i j d.z e.z hi hj hs h.over k.over }
  inside_mixed (Ball r) d e h k = record { near = near (square r) d e h.near k.near; over = over r d e h k }
  inside_mixed (Cone r a b) d e h k = record {
    near = near (square r) d e h.near k.near;
    over = some_mixed i j d.z e.z hi hj hs h.over k.over;
    steep = steep_mixed d.x d.y e.x e.y (square a) (square b) d.z e.z i j hi hj hs h.steep k.steep
        (steep_product d.x d.y e.x e.y (square a) (square b) d.z e.z (sq-ℤ a) (not_negative d.z h.over) (not_negative e.z k.over) h.over k.over h.steep k.steep);
  }

  -- a mean of two points of a triangle is one of its points
  point_mixed : (tri : Tri) (p q : Pt3) → IsPointOf tri n p → IsPointOf tri m q → IsPointOf tri (i *ℤ n +ℤ j *ℤ m) (mixed i j p q)
  point_mixed tri p q h k = record {
    u = i *ℤ h.u +ℤ j *ℤ k.u;
    v = i *ℤ h.v +ℤ j *ℤ k.v;
    w = i *ℤ h.w +ℤ j *ℤ k.w;
    u_ok = sum_mixed i j h.u k.u hi hj h.u_ok k.u_ok;
    v_ok = sum_mixed i j h.v k.v hi hj h.v_ok k.v_ok;
    w_ok = sum_mixed i j h.w k.w hi hj h.w_ok k.w_ok;
    some = some_mixed i j n m hi hj hs hn hm;
    weights = ap₂ (λ (a b : ℤ). i *ℤ a +ℤ j *ℤ b) h.weights k.weights ∙ weights_mixed i j h.u h.v h.w k.u k.v k.w;
    place = ap₂ (λ (a b : Pt3). mixed i j a b) h.place k.place ∙ same_place;
  }
    where
      of_x : i *ℤ ((h.u *ℤ tri.a.x +ℤ h.v *ℤ tri.b.x) +ℤ h.w *ℤ tri.c.x) +ℤ j *ℤ ((k.u *ℤ tri.a.x +ℤ k.v *ℤ tri.b.x) +ℤ k.w *ℤ tri.c.x)
          ≡ ((i *ℤ h.u +ℤ j *ℤ k.u) *ℤ tri.a.x +ℤ (i *ℤ h.v +ℤ j *ℤ k.v) *ℤ tri.b.x) +ℤ (i *ℤ h.w +ℤ j *ℤ k.w) *ℤ tri.c.x
      of_x = place_mixed i j h.u h.v h.w k.u k.v k.w tri.a.x tri.b.x tri.c.x

      of_y : i *ℤ ((h.u *ℤ tri.a.y +ℤ h.v *ℤ tri.b.y) +ℤ h.w *ℤ tri.c.y) +ℤ j *ℤ ((k.u *ℤ tri.a.y +ℤ k.v *ℤ tri.b.y) +ℤ k.w *ℤ tri.c.y)
          ≡ ((i *ℤ h.u +ℤ j *ℤ k.u) *ℤ tri.a.y +ℤ (i *ℤ h.v +ℤ j *ℤ k.v) *ℤ tri.b.y) +ℤ (i *ℤ h.w +ℤ j *ℤ k.w) *ℤ tri.c.y
      of_y = place_mixed i j h.u h.v h.w k.u k.v k.w tri.a.y tri.b.y tri.c.y

      of_z : i *ℤ ((h.u *ℤ tri.a.z +ℤ h.v *ℤ tri.b.z) +ℤ h.w *ℤ tri.c.z) +ℤ j *ℤ ((k.u *ℤ tri.a.z +ℤ k.v *ℤ tri.b.z) +ℤ k.w *ℤ tri.c.z)
          ≡ ((i *ℤ h.u +ℤ j *ℤ k.u) *ℤ tri.a.z +ℤ (i *ℤ h.v +ℤ j *ℤ k.v) *ℤ tri.b.z) +ℤ (i *ℤ h.w +ℤ j *ℤ k.w) *ℤ tri.c.z
      of_z = place_mixed i j h.u h.v h.w k.u k.v k.w tri.a.z tri.b.z tri.c.z

      same_place : mixed i j (plus (plus (times h.u tri.a) (times h.v tri.b)) (times h.w tri.c)) (plus (plus (times k.u tri.a) (times k.v tri.b)) (times k.w tri.c))
          ≡ plus (plus (times (i *ℤ h.u +ℤ j *ℤ k.u) tri.a) (times (i *ℤ h.v +ℤ j *ℤ k.v) tri.b)) (times (i *ℤ h.w +ℤ j *ℤ k.w) tri.c)
      same_place = λ o. record { x = of_x o; y = of_y o; z = of_z o }

-- the offset of the mean from a tip at v, where the two points have theirs from the tips at a and b
offset_mixed : (axis : Axis) (across z : ℤ) (p q : Pt3) (n m a v b : ℤ)
    → minus (times (pos 1) (mixed ((b -ℤ v) *ℤ m) ((v -ℤ a) *ℤ n) p q)) (times (((b -ℤ v) *ℤ m) *ℤ n +ℤ ((v -ℤ a) *ℤ n) *ℤ m) (place_on axis across z v))
    ≡ mixed ((b -ℤ v) *ℤ m) ((v -ℤ a) *ℤ n) (minus (times (pos 1) p) (times n (place_on axis across z a))) (minus (times (pos 1) q) (times m (place_on axis across z b)))
offset_mixed X across z p q n m a v b =
    let ex = moved_along p.x q.x n m a b v in
    let ey = moved_across p.y q.y n m ((b -ℤ v) *ℤ m) ((v -ℤ a) *ℤ n) across in
    let ez = moved_across p.z q.z n m ((b -ℤ v) *ℤ m) ((v -ℤ a) *ℤ n) z in
    λ o. record { x = ex o; y = ey o; z = ez o }
offset_mixed Y across z p q n m a v b =
    let ex = moved_across p.x q.x n m ((b -ℤ v) *ℤ m) ((v -ℤ a) *ℤ n) across in
    let ey = moved_along p.y q.y n m a b v in
    let ez = moved_across p.z q.z n m ((b -ℤ v) *ℤ m) ((v -ℤ a) *ℤ n) z in
    λ o. record { x = ex o; y = ey o; z = ez o }

-- at a position between two different ones
between : (cutter : Cutter) (tri : Tri) (fiber : Fiber) (a v b : ℤ) → a ≤ℤ v → v ≤ℤ b → a <ℤ b
    → IsTouched cutter tri fiber a → IsTouched cutter tri fiber b → IsTouched cutter tri fiber v
between cutter tri fiber a v b from to less h k =
    let n = h.n in
    let m = k.n in
    let i = (b -ℤ v) *ℤ m in
    let j = (v -ℤ a) *ℤ n in
    let hn = h.point.some in
    let hm = k.point.some in
    let hd : (pos 0) ≤ℤ (b -ℤ v) = rest v b to in
    let he : (pos 0) ≤ℤ (v -ℤ a) = rest a v from in
    let hi = mul_nonneg-ℤ (b -ℤ v) m hd (not_negative m hm) in
    let hj = mul_nonneg-ℤ (v -ℤ a) n he (not_negative n hn) in
    let hs = share (b -ℤ v) (v -ℤ a) n m hd he (whole a v b less) hn hm in
    let one : (pos 0) <ℤ (pos 1 *ℤ n) = some_one n hn in
    let two : (pos 0) <ℤ (pos 1 *ℤ m) = some_one m hm in
    let d = minus (times (pos 1) h.p) (times n (tip_on fiber a)) in
    let e = minus (times (pos 1) k.p) (times m (tip_on fiber b)) in
    let held = inside_mixed (pos 1 *ℤ n) (pos 1 *ℤ m) i j one two hi hj hs cutter d e h.inside k.inside in
    record {
      n = i *ℤ n +ℤ j *ℤ m;
      p = mixed i j h.p k.p;
      point = point_mixed n m i j hn hm hi hj hs tri h.p k.p h.point k.point;
      inside = subst₂ (λ o c. Inside cutter o c) (sym (one_mixed n m i j)) (sym (offset_mixed fiber.axis fiber.at fiber.z h.p k.p n m a v b)) held;
    }
  where
    rest : (a b : ℤ) → a ≤ℤ b → (pos 0) ≤ℤ (b -ℤ a)
    rest a b h = omega (arith, ints)

    whole : (a v b : ℤ) → a <ℤ b → (pos 0) <ℤ ((b -ℤ v) +ℤ (v -ℤ a))
    whole a v b h = omega (arith, ints)

    some_one : (n : ℤ) → (pos 0) <ℤ n → (pos 0) <ℤ (pos 1 *ℤ n)
    some_one n h = omega (arith, ints)

pub touched_between : OneStretch
touched_between cutter tri fiber a v b from to h k =
    by_lt_z a b (λ less. between cutter tri fiber a v b from to less h k) (λ over. subst (λ (w : ℤ). IsTouched cutter tri fiber w) (same a v b from to over) h)
  where
    same : (a v b : ℤ) → a ≤ℤ v → v ≤ℤ b → b ≤ℤ a → a ≡ v
    same a v b h k l = omega (arith, ints)
