-- Where a triangle that has no touch lies along the x axis, seen from the cylinder: one point of it in the strip between the cylinder's two sides tells.
use Rattle.std.proofs.Common.{◌≡◌, refl, sym, ◌∙◌, subst, arith}
use lib.IntN.{ℤ, pos, ◌+ℤ◌, ◌-ℤ◌, ◌*ℤ◌}
use lib.Signed.{◌<ℤ◌, ◌≤ℤ◌}
use Rattle.std.proofs.lemmas.Int.{ints}
use Rattle.mill_base.specs.Numbers.{square}
use Rattle.mill_base.proofs.Integers.{mul_nonneg-ℤ}
use Rattle.mill_geom.specs.declared.offset.Offset.{Offset}
use Rattle.mill_geom.specs.Offsets.{mean3}
use Rattle.mill_geom.specs.Contacts.{TouchesTriangle}
use Rattle.mill_geom.specs.Sides.{slid_by}
use Rattle.mill_geom.proofs.DescendCerts.{lin}
use Rattle.mill_geom.proofs.LevelCerts.{near_same}
use Rattle.mill_geom.proofs.SideCerts.{side_near, side_dot, slid, slid_x, slid_back, sum_time, side_over, side_weight}

-- some point of the triangle is nearer to the vertical plane along x than r, and over the level or on it
pub record Strip (r : ℤ) (a b c : Offset) : Type 0 where
  pub u : ℤ
  pub v : ℤ
  pub w : ℤ
  pub u_ok : (pos 0) ≤ℤ u
  pub v_ok : (pos 0) ≤ℤ v
  pub w_ok : (pos 0) ≤ℤ w
  pub some : (pos 0) <ℤ ((u +ℤ v) +ℤ w)
  pub near : square (mean3 u v w a b c).y <ℤ (square r *ℤ square ((u +ℤ v) +ℤ w))
  pub level : (pos 0) ≤ℤ (mean3 u v w a b c).z

weak : (x : ℤ) → (pos 0) <ℤ x → (pos 0) ≤ℤ x
weak x h = omega (arith, ints)

less : (x : ℤ) → x ≤ℤ pos 0 → (pos 0) ≤ℤ (pos 0 -ℤ x)
less x h = omega (arith, ints)

negated : (x : ℤ) → x <ℤ pos 0 → (pos 0) <ℤ (pos 0 -ℤ x)
negated x h = omega (arith, ints)

-- the point of the strip and the touch at t, weighed so that the first's place outweighs t, give a touch here
joined : (r : ℤ) (a b c : Offset) (t k m : ℤ) → (pos 0) <ℤ r → (s : Strip r a b c) → (v : TouchesTriangle r (slid_by t a) (slid_by t b) (slid_by t c)) → (pos 0) ≤ℤ k → (pos 0) <ℤ m
    → k *ℤ (mean3 s.u s.v s.w a b c).x +ℤ m *ℤ (mean3 v.u v.v v.w a b c).x ≡ m *ℤ ((mean3 v.u v.v v.w a b c).x -ℤ t *ℤ ((v.u +ℤ v.v) +ℤ v.w)) → TouchesTriangle r a b c
joined r a b c t k m hr s v hk hm e =
    let P = mean3 s.u s.v s.w a b c in
    let Q = mean3 v.u v.v v.w a b c in
    let q = (s.u +ℤ s.v) +ℤ s.w in
    let n = (v.u +ℤ v.v) +ℤ v.w in
    let D = Q.x -ℤ t *ℤ n in
    let M = mean3 (k *ℤ s.u +ℤ m *ℤ v.u) (k *ℤ s.v +ℤ m *ℤ v.v) (k *ℤ s.w +ℤ m *ℤ v.w) a b c in
    let total = sum_time k m s.u s.v s.w v.u v.v v.w in
    let close = near_same D Q.y n (mean3 v.u v.v v.w (slid_by t a) (slid_by t b) (slid_by t c)).x Q.y n r (sym (slid v.u v.v v.w a.x b.x c.x t)) refl refl v.inside.near in
    let dot = side_dot D Q.y P.y r n q close s.near (weak r hr) (weak n v.some) (weak q s.some) in
    record {
      u = k *ℤ s.u +ℤ m *ℤ v.u;
      v = k *ℤ s.v +ℤ m *ℤ v.v;
      w = k *ℤ s.w +ℤ m *ℤ v.w;
      u_ok = side_weight k m s.u v.u hk (weak m hm) s.u_ok v.u_ok;
      v_ok = side_weight k m s.v v.v hk (weak m hm) s.v_ok v.v_ok;
      w_ok = side_weight k m s.w v.w hk (weak m hm) s.w_ok v.w_ok;
      some = subst (λ z. (pos 0) <ℤ z) (sym total) (side_over k m q n hk hm (weak q s.some) v.some);
      inside = record {
        near = near_same M.x M.y (((k *ℤ s.u +ℤ m *ℤ v.u) +ℤ (k *ℤ s.v +ℤ m *ℤ v.v)) +ℤ (k *ℤ s.w +ℤ m *ℤ v.w)) (m *ℤ D) (k *ℤ P.y +ℤ m *ℤ Q.y) (k *ℤ q +ℤ m *ℤ n) r
            (lin k m s.u s.v s.w v.u v.v v.w a.x b.x c.x ∙ e) (lin k m s.u s.v s.w v.u v.v v.w a.y b.y c.y) total
            (side_near D Q.y P.y m n q r k close s.near dot hm hk);
        over = subst (λ z. (pos 0) <ℤ z) (sym (lin k m s.u s.v s.w v.u v.v v.w a.z b.z c.z)) (side_over k m P.z Q.z hk hm s.level v.inside.over);
      };
    }

-- a point of the strip at a greater x: a touch at or before the centre's place gives one at it
pub more_side : (r : ℤ) (a b c : Offset) (t : ℤ) → (pos 0) <ℤ r → (s : Strip r a b c) → (pos 0) <ℤ (mean3 s.u s.v s.w a b c).x → t ≤ℤ pos 0
    → TouchesTriangle r (slid_by t a) (slid_by t b) (slid_by t c) → TouchesTriangle r a b c
more_side r a b c t hr s hx ht v =
    let n = (v.u +ℤ v.v) +ℤ v.w in
    joined r a b c t ((pos 0 -ℤ t) *ℤ n) (mean3 s.u s.v s.w a b c).x hr s v (mul_nonneg-ℤ (pos 0 -ℤ t) n (less t ht) (weak n v.some)) hx
    (slid_x (mean3 s.u s.v s.w a b c).x (mean3 v.u v.v v.w a b c).x n t)

-- at a lesser x: the same of a touch at or behind the centre's place
pub less_side : (r : ℤ) (a b c : Offset) (t : ℤ) → (pos 0) <ℤ r → (s : Strip r a b c) → (mean3 s.u s.v s.w a b c).x <ℤ pos 0 → (pos 0) ≤ℤ t
    → TouchesTriangle r (slid_by t a) (slid_by t b) (slid_by t c) → TouchesTriangle r a b c
less_side r a b c t hr s hx ht v =
    let n = (v.u +ℤ v.v) +ℤ v.w in
    joined r a b c t (t *ℤ n) (pos 0 -ℤ (mean3 s.u s.v s.w a b c).x) hr s v (mul_nonneg-ℤ t n ht (weak n v.some)) (negated _ hx)
    (slid_back (mean3 s.u s.v s.w a b c).x (mean3 v.u v.v v.w a b c).x n t)
