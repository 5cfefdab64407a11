-- Where a triangle that the ball misses lies along x: one point of it that the ball passes on its way along x tells.
use Rattle.std.proofs.Common.{◌≡◌, inl, inr, refl, sym, ◌∙◌, subst, arith}
use lib.IntN.{ℤ, pos, ◌+ℤ◌, ◌-ℤ◌, ◌*ℤ◌}
use lib.Signed.{◌<ℤ◌, ◌≤ℤ◌}
use Rattle.std.proofs.lemmas.Int.{ints}
use Rattle.mill_base.specs.Numbers.{square}
use Rattle.mill_base.proofs.Exit.{split_lt}
use Rattle.mill_base.proofs.Integers.{mul_nonneg-ℤ}
use Rattle.mill_geom.specs.declared.offset.Offset.{Offset}
use Rattle.mill_geom.specs.Offsets.{mean3}
use Rattle.mill_geom.specs.Sides.{slid_by, TouchesSlid}
use Rattle.mill_geom.proofs.DescendCerts.{lin}
use Rattle.mill_geom.proofs.LevelCerts.{near_same}
use Rattle.mill_geom.proofs.SideCerts.{slid, slid_x, slid_back, sum_time, side_over, side_weight}
use Rattle.mill_contact_ball.specs.declared.weights.Weights.{Weights}
use Rattle.mill_contact_ball.specs.inner.Spheres.{IsSpot, MeetsSphere, MeetsBall, MeetsAt, flat_of, x_of}
use Rattle.mill_contact_ball.proofs.FootCerts.{add3_nonneg as time_ok}
use Rattle.mill_contact_ball.proofs.ShadowCerts.{dot_flat, dot_round, join_round, join_flat, join_low, in_shadow, to_shadow, on_axis}

weak : (x : ℤ) → (pos 0) <ℤ x → (pos 0) ≤ℤ x
weak x h = omega (arith, ints)

less : (x : ℤ) → x ≤ℤ pos 0 → (pos 0) ≤ℤ (pos 0 -ℤ x)
less x h = omega (arith, ints)

negated : (x : ℤ) → x <ℤ pos 0 → (pos 0) <ℤ (pos 0 -ℤ x)
negated x h = omega (arith, ints)

-- the point with these weights is passed by the ball on its way along x
pub record Shadow (r : ℤ) (a b c : Offset) (s : Weights) : Type 0 where
  pub u_ok : (pos 0) ≤ℤ s.u
  pub v_ok : (pos 0) ≤ℤ s.v
  pub w_ok : (pos 0) ≤ℤ s.w
  pub near : (square (mean3 s.u s.v s.w a b c).y +ℤ square (mean3 s.u s.v s.w a b c).z) <ℤ (square r *ℤ square ((s.u +ℤ s.v) +ℤ s.w))

-- that is what a point of the flattened triangle in the sphere shows
pub flat_shadow : (r : ℤ) (a b c : Offset) (s : Weights) → IsSpot r (flat_of a) (flat_of b) (flat_of c) s → Shadow r a b c s
flat_shadow r a b c s t = record {
  u_ok = t.u_ok;
  v_ok = t.v_ok;
  w_ok = t.w_ok;
  near = in_shadow s.u s.v s.w (mean3 s.u s.v s.w a b c).y (mean3 s.u s.v s.w a b c).z _ t.inside.near;
}

-- without such a point the sphere meets the triangle at no position
pub flat_never : (r : ℤ) (a b c : Offset) (t : ℤ) → (MeetsSphere r (flat_of a) (flat_of b) (flat_of c) → ⊥) → MeetsSphere r (slid_by t a) (slid_by t b) (slid_by t c) → ⊥
flat_never r a b c t none v =
    let s = v.at in
    none (record {
      at = s;
      spot = record {
        u_ok = v.spot.u_ok;
        v_ok = v.spot.v_ok;
        w_ok = v.spot.w_ok;
        inside = record { near = to_shadow (mean3 s.u s.v s.w (slid_by t a) (slid_by t b) (slid_by t c)).x s.u s.v s.w (mean3 s.u s.v s.w a b c).y (mean3 s.u s.v s.w a b c).z _ v.spot.inside.near };
      };
    })

pub same_sphere : (X Y Z N x y z n r : ℤ) → X ≡ x → Y ≡ y → Z ≡ z → N ≡ n → ((square x +ℤ square y) +ℤ square z) <ℤ (square r *ℤ square n) → ((square X +ℤ square Y) +ℤ square Z) <ℤ (square r *ℤ square N)
same_sphere X Y Z N x y z n r ex ey ez en h = rw (ex, ey, ez, en) h

-- the weights k*s + m*v
abbrev mixed : ℤ → ℤ → Weights → ℤ → ℤ → ℤ → Weights
mixed k m s u v w = record { u = k *ℤ s.u +ℤ m *ℤ u; v = k *ℤ s.v +ℤ m *ℤ v; w = k *ℤ s.w +ℤ m *ℤ w }

-- such a point and a meeting at t, weighed so that the first's place outweighs t, give a meeting here: with the sphere
joined_sphere : (r : ℤ) (a b c : Offset) (t k m : ℤ) (s : Weights) → (pos 0) <ℤ r → Shadow r a b c s → (v : MeetsSphere r (slid_by t a) (slid_by t b) (slid_by t c)) → (pos 0) ≤ℤ k → (pos 0) <ℤ m
    → k *ℤ (mean3 s.u s.v s.w a b c).x +ℤ m *ℤ (mean3 v.at.u v.at.v v.at.w a b c).x ≡ m *ℤ ((mean3 v.at.u v.at.v v.at.w a b c).x -ℤ t *ℤ ((v.at.u +ℤ v.at.v) +ℤ v.at.w)) → MeetsSphere r a b c
joined_sphere r a b c t k m s hr shadow v hk hm e =
    let o = v.at in
    let P = mean3 s.u s.v s.w a b c in
    let Q = mean3 o.u o.v o.w a b c in
    let q = (s.u +ℤ s.v) +ℤ s.w in
    let n = (o.u +ℤ o.v) +ℤ o.w in
    let D = Q.x -ℤ t *ℤ n in
    let g = mixed k m s o.u o.v o.w in
    let M = mean3 g.u g.v g.w a b c in
    let close = same_sphere D Q.y Q.z n (mean3 o.u o.v o.w (slid_by t a) (slid_by t b) (slid_by t c)).x Q.y Q.z n r (sym (slid o.u o.v o.w a.x b.x c.x t)) refl refl refl v.spot.inside.near in
    let dot = dot_round D Q.y Q.z P.y P.z r n q close shadow.near (weak r hr) (time_ok o.u o.v o.w v.spot.u_ok v.spot.v_ok v.spot.w_ok) (time_ok s.u s.v s.w shadow.u_ok shadow.v_ok shadow.w_ok) in
    record {
      at = g;
      spot = record {
        u_ok = side_weight k m s.u o.u hk (weak m hm) shadow.u_ok v.spot.u_ok;
        v_ok = side_weight k m s.v o.v hk (weak m hm) shadow.v_ok v.spot.v_ok;
        w_ok = side_weight k m s.w o.w hk (weak m hm) shadow.w_ok v.spot.w_ok;
        inside = record {
          near = same_sphere M.x M.y M.z ((g.u +ℤ g.v) +ℤ g.w) (m *ℤ D) (k *ℤ P.y +ℤ m *ℤ Q.y) (k *ℤ P.z +ℤ m *ℤ Q.z) (k *ℤ q +ℤ m *ℤ n) r
              (lin k m s.u s.v s.w o.u o.v o.w a.x b.x c.x ∙ e) (lin k m s.u s.v s.w o.u o.v o.w a.y b.y c.y) (lin k m s.u s.v s.w o.u o.v o.w a.z b.z c.z) (sum_time k m s.u s.v s.w o.u o.v o.w)
              (join_round D Q.y Q.z P.y P.z k m n q r close shadow.near dot hm hk);
        };
      };
    }

-- such a point and a meeting with the cylinder at t, weighed in the same way, give a meeting here
joined_cylinder : (r : ℤ) (a b c : Offset) (t k m : ℤ) (s : Weights) → (pos 0) <ℤ r → Shadow r a b c s → (v : TouchesSlid r a b c t) → (pos 0) ≤ℤ k → (pos 0) <ℤ m
    → k *ℤ (mean3 s.u s.v s.w a b c).x +ℤ m *ℤ (mean3 v.u v.v v.w a b c).x ≡ m *ℤ ((mean3 v.u v.v v.w a b c).x -ℤ t *ℤ ((v.u +ℤ v.v) +ℤ v.w)) → MeetsBall r a b c
joined_cylinder r a b c t k m s hr shadow v hk hm e =
    let P = mean3 s.u s.v s.w a b c in
    let Q = mean3 v.u v.v v.w a b c in
    let q = (s.u +ℤ s.v) +ℤ s.w in
    let n = (v.u +ℤ v.v) +ℤ v.w in
    let D = Q.x -ℤ t *ℤ n in
    let g = mixed k m s v.u v.v v.w in
    let M = mean3 g.u g.v g.w a b c in
    let q_ok = time_ok s.u s.v s.w shadow.u_ok shadow.v_ok shadow.w_ok in
    let total = sum_time k m s.u s.v s.w v.u v.v v.w in
    let place = lin k m s.u s.v s.w v.u v.v v.w a.x b.x c.x ∙ e in
    let across = lin k m s.u s.v s.w v.u v.v v.w a.y b.y c.y in
    let height = lin k m s.u s.v s.w v.u v.v v.w a.z b.z c.z in
    let u_ok = side_weight k m s.u v.u hk (weak m hm) shadow.u_ok v.u_ok in
    let v_ok = side_weight k m s.v v.v hk (weak m hm) shadow.v_ok v.v_ok in
    let w_ok = side_weight k m s.w v.w hk (weak m hm) shadow.w_ok v.w_ok in
    let close = near_same D Q.y n (mean3 v.u v.v v.w (slid_by t a) (slid_by t b) (slid_by t c)).x Q.y n r (sym (slid v.u v.v v.w a.x b.x c.x t)) refl refl v.inside.near in
    let dot = dot_flat D Q.y P.y P.z r n q close shadow.near (weak r hr) (weak n v.some) q_ok in
    elim (split_lt (pos 0) (k *ℤ P.z +ℤ m *ℤ Q.z)) [
      | inl up ↦ inr (record {
        u = g.u;
        v = g.v;
        w = g.w;
        u_ok = u_ok;
        v_ok = v_ok;
        w_ok = w_ok;
        some = subst (λ z. (pos 0) <ℤ z) (sym total) (side_over k m q n hk hm q_ok v.some);
        inside = record {
          near = near_same M.x M.y ((g.u +ℤ g.v) +ℤ g.w) (m *ℤ D) (k *ℤ P.y +ℤ m *ℤ Q.y) (k *ℤ q +ℤ m *ℤ n) r place across total (join_flat D Q.y P.y P.z k m n q r close shadow.near dot hm hk);
          over = subst (λ z. (pos 0) <ℤ z) (sym height) up;
        };
      })
      | inr low ↦ inl (record {
        at = g;
        spot = record {
          u_ok = u_ok;
          v_ok = v_ok;
          w_ok = w_ok;
          inside = record {
            near = same_sphere M.x M.y M.z ((g.u +ℤ g.v) +ℤ g.w) (m *ℤ D) (k *ℤ P.y +ℤ m *ℤ Q.y) (k *ℤ P.z +ℤ m *ℤ Q.z) (k *ℤ q +ℤ m *ℤ n) r place across height total
                (join_low D Q.y Q.z P.y P.z k m n q r close shadow.near dot v.inside.over low hm hk);
          };
        };
      })
    ]

-- a point at a greater x: a meeting at or before the origin's place gives one at it
pub more_meeting : (r : ℤ) (a b c : Offset) (t : ℤ) (s : Weights) → (pos 0) <ℤ r → Shadow r a b c s → (pos 0) <ℤ (mean3 s.u s.v s.w a b c).x → t ≤ℤ pos 0 → MeetsAt r a b c t → MeetsBall r a b c
more_meeting r a b c t s hr shadow hx ht (inl v) =
    let n = (v.at.u +ℤ v.at.v) +ℤ v.at.w in
    inl (joined_sphere r a b c t ((pos 0 -ℤ t) *ℤ n) (mean3 s.u s.v s.w a b c).x s hr shadow v
    (mul_nonneg-ℤ (pos 0 -ℤ t) n (less t ht) (time_ok v.at.u v.at.v v.at.w v.spot.u_ok v.spot.v_ok v.spot.w_ok)) hx (slid_x (mean3 s.u s.v s.w a b c).x (mean3 v.at.u v.at.v v.at.w a b c).x n t))
more_meeting r a b c t s hr shadow hx ht (inr v) =
    let n = (v.u +ℤ v.v) +ℤ v.w in
    joined_cylinder r a b c t ((pos 0 -ℤ t) *ℤ n) (mean3 s.u s.v s.w a b c).x s hr shadow v (mul_nonneg-ℤ (pos 0 -ℤ t) n (less t ht) (weak n v.some)) hx
    (slid_x (mean3 s.u s.v s.w a b c).x (mean3 v.u v.v v.w a b c).x n t)

-- at a lesser x: the same of a meeting at or behind the origin's place
pub less_meeting : (r : ℤ) (a b c : Offset) (t : ℤ) (s : Weights) → (pos 0) <ℤ r → Shadow r a b c s → (mean3 s.u s.v s.w a b c).x <ℤ pos 0 → (pos 0) ≤ℤ t → MeetsAt r a b c t → MeetsBall r a b c
less_meeting r a b c t s hr shadow hx ht (inl v) =
    let n = (v.at.u +ℤ v.at.v) +ℤ v.at.w in
    inl (joined_sphere r a b c t (t *ℤ n) (pos 0 -ℤ (mean3 s.u s.v s.w a b c).x) s hr shadow v
    (mul_nonneg-ℤ t n ht (time_ok v.at.u v.at.v v.at.w v.spot.u_ok v.spot.v_ok v.spot.w_ok)) (negated _ hx) (slid_back (mean3 s.u s.v s.w a b c).x (mean3 v.at.u v.at.v v.at.w a b c).x n t))
less_meeting r a b c t s hr shadow hx ht (inr v) =
    let n = (v.u +ℤ v.v) +ℤ v.w in
    joined_cylinder r a b c t (t *ℤ n) (pos 0 -ℤ (mean3 s.u s.v s.w a b c).x) s hr shadow v (mul_nonneg-ℤ t n ht (weak n v.some)) (negated _ hx)
    (slid_back (mean3 s.u s.v s.w a b c).x (mean3 v.u v.v v.w a b c).x n t)

zero : (x : ℤ) → x ≤ℤ pos 0 → (pos 0) ≤ℤ x → x ≡ pos 0
zero x h k = omega (arith, ints)

-- a point at the origin's place is in the sphere
axis_meeting : (r : ℤ) (a b c : Offset) (s : Weights) → Shadow r a b c s → (mean3 s.u s.v s.w a b c).x ≡ pos 0 → MeetsSphere r a b c
axis_meeting r a b c s shadow e = record {
  at = s;
  spot = record {
    u_ok = shadow.u_ok;
    v_ok = shadow.v_ok;
    w_ok = shadow.w_ok;
    inside = record { near = on_axis (mean3 s.u s.v s.w a b c).x (mean3 s.u s.v s.w a b c).y (mean3 s.u s.v s.w a b c).z _ e shadow.near };
  };
}

-- what the sign of the point's x shows where the ball misses the triangle
pub shadow_more : (r : ℤ) (a b c : Offset) (s : Weights) (x : ℤ) → (pos 0) <ℤ r → (MeetsBall r a b c → ⊥) → IsSpot r (flat_of a) (flat_of b) (flat_of c) s → x ≡ x_of s a b c → (pos 0) <ℤ x
    → (t : ℤ) → t ≤ℤ pos 0 → MeetsAt r a b c t → ⊥
shadow_more r a b c s x hr apart spot e hx t ht v = apart (more_meeting r a b c t s hr (flat_shadow r a b c s spot) (subst (λ z. (pos 0) <ℤ z) e hx) ht v)

pub shadow_less : (r : ℤ) (a b c : Offset) (s : Weights) (x : ℤ) → (pos 0) <ℤ r → (MeetsBall r a b c → ⊥) → IsSpot r (flat_of a) (flat_of b) (flat_of c) s → x ≡ x_of s a b c → x ≤ℤ pos 0
    → (t : ℤ) → (pos 0) ≤ℤ t → MeetsAt r a b c t → ⊥
shadow_less r a b c s x hr apart spot e hx t ht v = elim (split_lt x (pos 0)) [
  | inl l ↦ apart (less_meeting r a b c t s hr (flat_shadow r a b c s spot) (subst (λ z. z <ℤ pos 0) e l) ht v)
  | inr l ↦ absurd (apart (inl (axis_meeting r a b c s (flat_shadow r a b c s spot) (sym e ∙ zero x hx l))))
]
