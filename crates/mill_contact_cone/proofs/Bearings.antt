-- One point of a triangle that comes into the cutter at some position along x tells on which side of the tip all of them are.
use Rattle.std.proofs.Common.{◌≡◌, refl, sym, ◌∙◌, subst, arith}
use lib.IntN.{ℤ, pos, ◌+ℤ◌, ◌-ℤ◌, ◌*ℤ◌}
use lib.Signed.{◌<ℤ◌, ◌≤ℤ◌}
use Rattle.std.proofs.lemmas.Int.{ints}
use Rattle.mill_base.specs.Cutters.{InCone}
use Rattle.mill_base.proofs.Integers.{mul_nonneg-ℤ}
use Rattle.mill_geom.specs.declared.touch.Side.{Side}
use Rattle.mill_geom.specs.declared.touch.Side.TheVariants.{Less, More, Never}
use Rattle.mill_geom.specs.Offsets.{mean3}
use Rattle.mill_geom.specs.Sides.{IsOnSide}
use Rattle.mill_geom.proofs.Corners.{gone_third}
use Rattle.mill_geom.proofs.DescendCerts.{lin}
use Rattle.mill_geom.proofs.SideCerts.{side_near, side_dot, side_over, side_weight, sum_time, slid, slid_x, slid_back, strip_near}
use Rattle.mill_contact_cone.specs.declared.corner.Cone.{Cone}
use Rattle.mill_contact_cone.specs.declared.corner.Corner.{Corner}
use Rattle.mill_contact_cone.specs.Cones.{IsCone, plain, TouchesCone}
use Rattle.mill_contact_cone.specs.inner.Positions.{ConeAt, slid as slid_corner, flattened, IsSeenOn}
use Rattle.mill_contact_cone.proofs.Sizes.{radius_positive, run_positive}
use Rattle.mill_contact_cone.proofs.Zones.{same_inside}
use Rattle.mill_contact_cone.proofs.Whole.{cone_edge, cone_turned}
use Rattle.mill_contact_cone.proofs.SideCerts.{steep_in, steep_strip, steep_out}

weak : (x : ℤ) → (pos 0) <ℤ x → (pos 0) ≤ℤ x
weak x h = omega (arith, ints)

less : (x : ℤ) → x ≤ℤ pos 0 → (pos 0) ≤ℤ (pos 0 -ℤ x)
less x h = omega (arith, ints)

negated : (x : ℤ) → x <ℤ pos 0 → (pos 0) <ℤ (pos 0 -ℤ x)
negated x h = omega (arith, ints)

-- the point that comes into the cutter and the touch at t, weighed so that the first's place outweighs t, give a touch here
joined : (k : Cone) (a b c : Corner) (t h m : ℤ) → IsCone k → (s : TouchesCone k (flattened a) (flattened b) (flattened c)) → (v : ConeAt k a b c t) → (pos 0) ≤ℤ h → (pos 0) <ℤ m
    → h *ℤ (mean3 s.u s.v s.w (plain a) (plain b) (plain c)).x +ℤ m *ℤ (mean3 v.u v.v v.w (plain a) (plain b) (plain c)).x ≡ m *ℤ ((mean3 v.u v.v v.w (plain a) (plain b) (plain c)).x -ℤ t *ℤ ((v.u +ℤ v.v) +ℤ v.w))
    → TouchesCone k a b c
joined k a b c t h m g s v hh hm e =
    let P = mean3 s.u s.v s.w (plain a) (plain b) (plain c) in
    let Q = mean3 v.u v.v v.w (plain a) (plain b) (plain c) in
    let q = (s.u +ℤ s.v) +ℤ s.w in
    let n = (v.u +ℤ v.v) +ℤ v.w in
    let D = (mean3 v.u v.v v.w (plain (slid_corner t a)) (plain (slid_corner t b)) (plain (slid_corner t c))).x in
    let r = weak k.radius (radius_positive k g) in
    let b_ok = weak k.run (run_positive k g) in
    let close = strip_near (mean3 s.u s.v s.w (plain (flattened a)) (plain (flattened b)) (plain (flattened c))).x P.y _ s.inside.near in
    let near = side_near D Q.y P.y m n q k.radius h v.inside.near close (side_dot D Q.y P.y k.radius n q v.inside.near close r (weak n v.some) (weak q s.some)) hm hh in
    let steep_v = steep_in D Q.y Q.z k.rise k.run v.inside.steep in
    let steep_s = steep_strip (mean3 s.u s.v s.w (plain (flattened a)) (plain (flattened b)) (plain (flattened c))).x P.y P.z k.rise k.run s.inside.steep in
    let steep = side_near (k.rise *ℤ D) (k.rise *ℤ Q.y) (k.rise *ℤ P.y) m Q.z P.z k.run h steep_v steep_s
    (side_dot (k.rise *ℤ D) (k.rise *ℤ Q.y) (k.rise *ℤ P.y) k.run Q.z P.z steep_v steep_s b_ok (weak _ v.inside.over) (weak _ s.inside.over)) hm hh in
    let total = sum_time h m s.u s.v s.w v.u v.v v.w in
    let here : InCone k.radius k.rise k.run (h *ℤ q +ℤ m *ℤ n) (record { x = m *ℤ D; y = h *ℤ P.y +ℤ m *ℤ Q.y; z = h *ℤ P.z +ℤ m *ℤ Q.z }) = record {
      near = near;
      over = side_over h m P.z Q.z hh hm (weak _ s.inside.over) v.inside.over;
      steep = steep_out k.rise k.run m h D P.y Q.y (h *ℤ P.z +ℤ m *ℤ Q.z) steep;
    } in
    record {
      u = h *ℤ s.u +ℤ m *ℤ v.u;
      v = h *ℤ s.v +ℤ m *ℤ v.v;
      w = h *ℤ s.w +ℤ m *ℤ v.w;
      u_ok = side_weight h m s.u v.u hh (weak m hm) s.u_ok v.u_ok;
      v_ok = side_weight h m s.v v.v hh (weak m hm) s.v_ok v.v_ok;
      w_ok = side_weight h m s.w v.w hh (weak m hm) s.w_ok v.w_ok;
      some = subst (λ z. (pos 0) <ℤ z) (sym total) (side_over h m q n hh hm (weak q s.some) v.some);
      inside = same_inside k.radius k.rise k.run (h *ℤ q +ℤ m *ℤ n) (((h *ℤ s.u +ℤ m *ℤ v.u) +ℤ (h *ℤ s.v +ℤ m *ℤ v.v)) +ℤ (h *ℤ s.w +ℤ m *ℤ v.w)) _ _ _ _ _ _ (sym total)
          (placed m D Q.x n t _ (slid v.u v.v v.w a.x b.x c.x t) (lin h m s.u s.v s.w v.u v.v v.w a.x b.x c.x ∙ e))
          (sym (lin h m s.u s.v s.w v.u v.v v.w a.y b.y c.y)) (sym (lin h m s.u s.v s.w v.u v.v v.w a.z b.z c.z)) here;
    }
  where
    placed : (m D X n t M : ℤ) → D ≡ X -ℤ t *ℤ n → M ≡ m *ℤ (X -ℤ t *ℤ n) → m *ℤ D ≡ M
    placed m D X n t M ed em = rw (ed, em) refl

-- with the point behind the tip, a touch at or before it gives one at it
more_side : (k : Cone) (a b c : Corner) (t : ℤ) → IsCone k → (s : TouchesCone k (flattened a) (flattened b) (flattened c)) → (pos 0) <ℤ (mean3 s.u s.v s.w (plain a) (plain b) (plain c)).x → t ≤ℤ pos 0 → ConeAt k a b c t → TouchesCone k a b c
more_side k a b c t g s hx ht v =
    let n = (v.u +ℤ v.v) +ℤ v.w in
    joined k a b c t ((pos 0 -ℤ t) *ℤ n) (mean3 s.u s.v s.w (plain a) (plain b) (plain c)).x g s v (mul_nonneg-ℤ (pos 0 -ℤ t) n (less t ht) (weak n v.some)) hx
    (slid_x (mean3 s.u s.v s.w (plain a) (plain b) (plain c)).x (mean3 v.u v.v v.w (plain a) (plain b) (plain c)).x n t)

-- with the point before the tip, one at or behind it does
less_side : (k : Cone) (a b c : Corner) (t : ℤ) → IsCone k → (s : TouchesCone k (flattened a) (flattened b) (flattened c)) → (mean3 s.u s.v s.w (plain a) (plain b) (plain c)).x <ℤ pos 0 → (pos 0) ≤ℤ t → ConeAt k a b c t → TouchesCone k a b c
less_side k a b c t g s hx ht v =
    let n = (v.u +ℤ v.v) +ℤ v.w in
    joined k a b c t (t *ℤ n) (pos 0 -ℤ (mean3 s.u s.v s.w (plain a) (plain b) (plain c)).x) g s v (mul_nonneg-ℤ t n ht (weak n v.some)) (negated _ hx)
    (slid_back (mean3 s.u s.v s.w (plain a) (plain b) (plain c)).x (mean3 v.u v.v v.w (plain a) (plain b) (plain c)).x n t)

-- what an edge shows holds of the triangle
pub edge_side : (s : Side) (k : Cone) (p q o : Corner) → IsCone k → IsSeenOn s k p q → (TouchesCone k p q o → ⊥) → IsOnSide s (ConeAt k p q o)
edge_side Less k p q o g h apart = λ t ht v. apart (less_side k p q o t g (cone_edge k (flattened p) (flattened q) (flattened o) h.seen)
    (subst (λ x. x <ℤ pos 0) (sym (gone_third (h.seen.u *ℤ p.x) (h.seen.v *ℤ q.x) o.x (pos 0) refl)) h.less) ht v)
edge_side More k p q o g h apart = λ t ht v. apart (more_side k p q o t g (cone_edge k (flattened p) (flattened q) (flattened o) h.seen)
    (subst (λ x. (pos 0) <ℤ x) (sym (gone_third (h.seen.u *ℤ p.x) (h.seen.v *ℤ q.x) o.x (pos 0) refl)) h.more) ht v)
edge_side Never k p q o g h apart = absurd h

-- the corners in another order
turned_at : (k : Cone) (a b c : Corner) (t : ℤ) → ConeAt k a b c t → ConeAt k b c a t
turned_at k a b c t v = cone_turned k (slid_corner t b) (slid_corner t c) (slid_corner t a) (cone_turned k (slid_corner t c) (slid_corner t a) (slid_corner t b) v)

pub side_turned : (s : Side) (k : Cone) (a b c : Corner) → IsOnSide s (ConeAt k b c a) → IsOnSide s (ConeAt k a b c)
side_turned Less k a b c h = λ t ht v. h t ht (turned_at k a b c t v)
side_turned More k a b c h = λ t ht v. h t ht (turned_at k a b c t v)
side_turned Never k a b c h = λ t v. h t (turned_at k a b c t v)
