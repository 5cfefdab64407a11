-- Touches of a triangle and of the offsets of its corners are the same; and a triangle beyond the radius on one side has none.
use Rattle.std.proofs.Common.{◌≡◌, refl, sym, ap, ◌∙◌, subst, arith}
use lib.IntN.{ℤ, pos, ◌+ℤ◌, ◌-ℤ◌, ◌*ℤ◌}
use lib.Signed.{◌<ℤ◌, ◌≤ℤ◌}
use Rattle.std.proofs.lemmas.Int.{ints}
use Rattle.mill_base.specs.declared.points.Pt3.{Pt3}
use Rattle.mill_base.specs.declared.points.Tri.{Tri}
use Rattle.mill_base.specs.declared.cutter.Cutter.TheVariants.{Flat}
use Rattle.mill_base.specs.Points.{plus, times}
use Rattle.mill_base.specs.Contact.{Touches}
use Rattle.mill_base.proofs.Integers.{one-mul-ℤ}
use Rattle.mill_geom.specs.declared.offset.Offset.{Offset}
use Rattle.mill_geom.specs.Offsets.{mean3, IsOffset}
use Rattle.mill_geom.specs.Contacts.{TouchesTriangle}
use Rattle.mill_geom.proofs.LevelCerts.{near_same}
use Rattle.mill_geom.proofs.PlaceCerts.{shifted, high_x, low_x, far_high, far_low, swap_near}

-- one coordinate of a weighted sum, from the corners' and from the offsets'
pub spot : (p n t u v w a b c x y z : ℤ) → p ≡ (u *ℤ a +ℤ v *ℤ b) +ℤ w *ℤ c → n ≡ (u +ℤ v) +ℤ w → x ≡ a -ℤ t → y ≡ b -ℤ t → z ≡ c -ℤ t
    → (pos 1 *ℤ p) -ℤ n *ℤ t ≡ (u *ℤ x +ℤ v *ℤ y) +ℤ w *ℤ z
spot p n t u v w a b c x y z ep en ex ey ez = rw (ep, en, ex, ey, ez) (shifted u v w a b c t)

pub touch_place : (r : ℤ) (tri : Tri) (centre : Pt3) (a b c : Offset) → IsOffset a tri.a centre → IsOffset b tri.b centre → IsOffset c tri.c centre
    → TouchesTriangle r a b c → Touches (Flat r) (pos 1) centre tri
touch_place r tri centre a b c oa ob oc t =
    let n = (t.u +ℤ t.v) +ℤ t.w in
    let p = plus (plus (times t.u tri.a) (times t.v tri.b)) (times t.w tri.c) in
    record {
      n = n;
      p = p;
      point = record { u = t.u; v = t.v; w = t.w; u_ok = t.u_ok; v_ok = t.v_ok; w_ok = t.w_ok; some = t.some; weights = refl; place = refl };
      inside = record {
        near = near_same ((pos 1 *ℤ p.x) -ℤ n *ℤ centre.x) ((pos 1 *ℤ p.y) -ℤ n *ℤ centre.y) (pos 1 *ℤ n) (mean3 t.u t.v t.w a b c).x (mean3 t.u t.v t.w a b c).y n r
            (spot p.x n centre.x t.u t.v t.w tri.a.x tri.b.x tri.c.x a.x b.x c.x refl refl oa.x_is ob.x_is oc.x_is)
            (spot p.y n centre.y t.u t.v t.w tri.a.y tri.b.y tri.c.y a.y b.y c.y refl refl oa.y_is ob.y_is oc.y_is) (one-mul-ℤ n) t.inside.near;
        over = subst (λ s. (pos 0) <ℤ s) (sym (spot p.z n centre.z t.u t.v t.w tri.a.z tri.b.z tri.c.z a.z b.z c.z refl refl oa.z_is ob.z_is oc.z_is)) t.inside.over;
      };
    }

pub place_touch : (r : ℤ) (tri : Tri) (centre : Pt3) (a b c : Offset) → IsOffset a tri.a centre → IsOffset b tri.b centre → IsOffset c tri.c centre
    → Touches (Flat r) (pos 1) centre tri → TouchesTriangle r a b c
place_touch r tri centre a b c oa ob oc t =
    let k = t.point in
    let n = (k.u +ℤ k.v) +ℤ k.w in
    record {
      u = k.u;
      v = k.v;
      w = k.w;
      u_ok = k.u_ok;
      v_ok = k.v_ok;
      w_ok = k.w_ok;
      some = subst (λ s. (pos 0) <ℤ s) k.weights k.some;
      inside = record {
        near = near_same (mean3 k.u k.v k.w a b c).x (mean3 k.u k.v k.w a b c).y n ((pos 1 *ℤ t.p.x) -ℤ t.n *ℤ centre.x) ((pos 1 *ℤ t.p.y) -ℤ t.n *ℤ centre.y) (pos 1 *ℤ t.n) r
            (sym (spot t.p.x t.n centre.x k.u k.v k.w tri.a.x tri.b.x tri.c.x a.x b.x c.x (ap (λ (q : Pt3). q.x) k.place) k.weights oa.x_is ob.x_is oc.x_is))
            (sym (spot t.p.y t.n centre.y k.u k.v k.w tri.a.y tri.b.y tri.c.y a.y b.y c.y (ap (λ (q : Pt3). q.y) k.place) k.weights oa.y_is ob.y_is oc.y_is))
            (sym (one-mul-ℤ t.n ∙ k.weights)) t.inside.near;
        over = subst (λ s. (pos 0) <ℤ s) (spot t.p.z t.n centre.z k.u k.v k.w tri.a.z tri.b.z tri.c.z a.z b.z c.z (ap (λ (q : Pt3). q.z) k.place) k.weights oa.z_is ob.z_is oc.z_is) t.inside.over;
      };
    }

positive : (x : ℤ) → (pos 0) <ℤ x → (pos 0) ≤ℤ x
positive x h = omega (arith, ints)

-- all corners at least r away on one side: no point is nearer than r
pub misses_high_x : (r : ℤ) (a b c : Offset) → (pos 0) ≤ℤ r → r ≤ℤ a.x → r ≤ℤ b.x → r ≤ℤ c.x → TouchesTriangle r a b c → ⊥
misses_high_x r a b c hr ha hb hc t =
    far_high (mean3 t.u t.v t.w a b c).x (mean3 t.u t.v t.w a b c).y r ((t.u +ℤ t.v) +ℤ t.w) hr (positive _ t.some) (high_x t.u t.v t.w a.x b.x c.x r t.u_ok t.v_ok t.w_ok hr ha hb hc) t.inside.near

pub misses_low_x : (r : ℤ) (a b c : Offset) → (pos 0) ≤ℤ r → a.x ≤ℤ (pos 0 -ℤ r) → b.x ≤ℤ (pos 0 -ℤ r) → c.x ≤ℤ (pos 0 -ℤ r) → TouchesTriangle r a b c → ⊥
misses_low_x r a b c hr ha hb hc t =
    far_low (mean3 t.u t.v t.w a b c).x (mean3 t.u t.v t.w a b c).y r ((t.u +ℤ t.v) +ℤ t.w) hr (positive _ t.some) (low_x t.u t.v t.w a.x b.x c.x r t.u_ok t.v_ok t.w_ok ha hb hc) t.inside.near

pub misses_high_y : (r : ℤ) (a b c : Offset) → (pos 0) ≤ℤ r → r ≤ℤ a.y → r ≤ℤ b.y → r ≤ℤ c.y → TouchesTriangle r a b c → ⊥
misses_high_y r a b c hr ha hb hc t =
    far_high (mean3 t.u t.v t.w a b c).y (mean3 t.u t.v t.w a b c).x r ((t.u +ℤ t.v) +ℤ t.w) hr (positive _ t.some) (high_x t.u t.v t.w a.y b.y c.y r t.u_ok t.v_ok t.w_ok hr ha hb hc)
    (swap_near (mean3 t.u t.v t.w a b c).x (mean3 t.u t.v t.w a b c).y _ t.inside.near)

pub misses_low_y : (r : ℤ) (a b c : Offset) → (pos 0) ≤ℤ r → a.y ≤ℤ (pos 0 -ℤ r) → b.y ≤ℤ (pos 0 -ℤ r) → c.y ≤ℤ (pos 0 -ℤ r) → TouchesTriangle r a b c → ⊥
misses_low_y r a b c hr ha hb hc t =
    far_low (mean3 t.u t.v t.w a b c).y (mean3 t.u t.v t.w a b c).x r ((t.u +ℤ t.v) +ℤ t.w) hr (positive _ t.some) (low_x t.u t.v t.w a.y b.y c.y r t.u_ok t.v_ok t.w_ok ha hb hc)
    (swap_near (mean3 t.u t.v t.w a b c).x (mean3 t.u t.v t.w a b c).y _ t.inside.near)
