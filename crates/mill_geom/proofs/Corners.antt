-- Corners of a triangle as vectors with a time, and touches of segments and triangles as hits.
use Rattle.std.proofs.Common.{◌≡◌, refl, sym, ◌∙◌, subst, arith}
use lib.IntN.{ℤ, pos, ◌+ℤ◌, ◌*ℤ◌}
use lib.Signed.{◌<ℤ◌, ◌≤ℤ◌}
use Rattle.std.proofs.lemmas.Int.{ints}
use Rattle.mill_base.specs.Numbers.{square}
use Rattle.mill_base.specs.Cutters.{apart}
use Rattle.mill_base.proofs.Integers.{zero-mul-ℤ, add-mul-ℤ}
use Rattle.mill_geom.specs.declared.offset.Offset.{Offset}
use Rattle.mill_geom.specs.Offsets.{mean2, mean3}
use Rattle.mill_geom.specs.Contacts.{TouchesSegment, TouchesTriangle, OnLevel, EdgesClear}
use Rattle.mill_geom.proofs.Descend.{V4, Hit}
use Rattle.mill_geom.proofs.FlatTriangle.{Touch, Clear}
use Rattle.mill_geom.proofs.Cut.{opens}
use Rattle.mill_geom.proofs.CutCerts.{open_time}
use Rattle.mill_geom.proofs.LevelCerts.{near_to, near_from, near_pair, near_same, time_ok, some_of}

-- the corner at an offset, where the form of the cylinder is x*x + y*y - n*n
abbrev pub corner : ℤ → Offset → V4
corner r p = record { x = p.x; y = p.y; n = r; l = p.z }

-- some point of the triangle is nearer to the axis than r, and over the level or on it
pub record Closed (r : ℤ) (a b c : Offset) : Type 0 where
  pub u : ℤ
  pub v : ℤ
  pub w : ℤ
  pub u_ok : (pos 0) ≤ℤ u
  pub v_ok : (pos 0) ≤ℤ v
  pub w_ok : (pos 0) ≤ℤ w
  pub near : apart (mean3 u v w a b c) <ℤ (square r *ℤ square ((u +ℤ v) +ℤ w))
  pub level : (pos 0) ≤ℤ (mean3 u v w a b c).z

pub weak : (x : ℤ) → (pos 0) <ℤ x → (pos 0) ≤ℤ x
weak x h = omega (arith, ints)

pub at_zero : (x : ℤ) → x ≡ pos 0 → (pos 0) ≤ℤ x
at_zero x e = omega (arith, ints)

sum3 : (u v w : ℤ) → (pos 0) ≤ℤ u → (pos 0) ≤ℤ v → (pos 0) ≤ℤ w → (pos 0) ≤ℤ ((u +ℤ v) +ℤ w)
sum3 u v w hu hv hw = omega (arith, ints)

sum2 : (u v : ℤ) → (pos 0) ≤ℤ u → (pos 0) ≤ℤ v → (pos 0) ≤ℤ (u +ℤ v)
sum2 u v hu hv = omega (arith, ints)

pub near_hit : (r : ℤ) (a b c : Offset) (u v w : ℤ) → (pos 0) <ℤ r → (pos 0) ≤ℤ u → (pos 0) ≤ℤ v → (pos 0) ≤ℤ w
    → apart (mean3 u v w a b c) <ℤ (square r *ℤ square ((u +ℤ v) +ℤ w)) → (pos 0) ≤ℤ (mean3 u v w a b c).z → Hit (corner r a) (corner r b) (corner r c) u v w
near_hit r a b c u v w hr hu hv hw near level = record {
  near = near_to (mean3 u v w a b c).x (mean3 u v w a b c).y u v w r near;
  time = time_ok u v w r hu hv hw hr;
  side = level;
}

pub touch_hit : (r : ℤ) (a b c : Offset) → (pos 0) <ℤ r → TouchesTriangle r a b c → Touch (corner r a) (corner r b) (corner r c)
touch_hit r a b c hr t = record {
  u = t.u;
  v = t.v;
  w = t.w;
  weights = record { u_ok = t.u_ok; v_ok = t.v_ok; w_ok = t.w_ok };
  hit = near_hit r a b c t.u t.v t.w hr t.u_ok t.v_ok t.w_ok t.inside.near (weak _ t.inside.over);
  over = t.inside.over;
}

pub hit_touch : (r : ℤ) (a b c : Offset) → Touch (corner r a) (corner r b) (corner r c) → TouchesTriangle r a b c
hit_touch r a b c t =
    let m = mean3 t.u t.v t.w a b c in
    let near = near_from m.x m.y m.x m.y ((t.u *ℤ r +ℤ t.v *ℤ r) +ℤ t.w *ℤ r) t.u t.v t.w r refl refl refl t.hit.near in
    record {
      u = t.u;
      v = t.v;
      w = t.w;
      u_ok = t.weights.u_ok;
      v_ok = t.weights.v_ok;
      w_ok = t.weights.w_ok;
      some = some_of m.x m.y ((t.u +ℤ t.v) +ℤ t.w) r (sum3 t.u t.v t.w t.weights.u_ok t.weights.v_ok t.weights.w_ok) near;
      inside = record { near = near; over = t.over };
    }

-- where the first corner is over the level, a near point on the level gives one over it
pub opened : (r : ℤ) (a b c : Offset) → (pos 0) <ℤ r → (pos 0) <ℤ a.z → Closed r a b c → TouchesTriangle r a b c
opened r a b c hr ha t =
    let o = opens (corner r a) (corner r b) (corner r c) t.u t.v t.w ha (weak r hr) (record { u_ok = t.u_ok; v_ok = t.v_ok; w_ok = t.w_ok })
    (near_hit r a b c t.u t.v t.w hr t.u_ok t.v_ok t.w_ok t.near t.level) in
    hit_touch r a b c (record {
      u = o.k *ℤ t.u +ℤ pos 1 *ℤ pos 1;
      v = o.k *ℤ t.v +ℤ pos 1 *ℤ pos 0;
      w = o.k *ℤ t.w +ℤ pos 1 *ℤ pos 0;
      weights = record {
        u_ok = open_time o.k t.u (pos 1) o.k_ok t.u_ok (omega (arith, ints));
        v_ok = open_time o.k t.v (pos 0) o.k_ok t.v_ok (omega (arith, ints));
        w_ok = open_time o.k t.w (pos 0) o.k_ok t.w_ok (omega (arith, ints));
      };
      hit = o.hit;
      over = o.over;
    })

turn_sum : (x y z : ℤ) → (z +ℤ x) +ℤ y ≡ (x +ℤ y) +ℤ z
turn_sum x y z = omega (arith, ints)

turn_near : (r : ℤ) (a b c : Offset) (u v w : ℤ) → apart (mean3 u v w b c a) <ℤ (square r *ℤ square ((u +ℤ v) +ℤ w)) → apart (mean3 w u v a b c) <ℤ (square r *ℤ square ((w +ℤ u) +ℤ v))
turn_near r a b c u v w near =
    near_same (mean3 w u v a b c).x (mean3 w u v a b c).y ((w +ℤ u) +ℤ v) (mean3 u v w b c a).x (mean3 u v w b c a).y ((u +ℤ v) +ℤ w) r
    (turn_sum (u *ℤ b.x) (v *ℤ c.x) (w *ℤ a.x)) (turn_sum (u *ℤ b.y) (v *ℤ c.y) (w *ℤ a.y)) (turn_sum u v w) near

-- the corners in another order
pub turn_touch : (r : ℤ) (a b c : Offset) → TouchesTriangle r b c a → TouchesTriangle r a b c
turn_touch r a b c t = record {
  u = t.w;
  v = t.u;
  w = t.v;
  u_ok = t.w_ok;
  v_ok = t.u_ok;
  w_ok = t.v_ok;
  some = subst (λ s. (pos 0) <ℤ s) (sym (turn_sum t.u t.v t.w)) t.some;
  inside = record {
    near = turn_near r a b c t.u t.v t.w t.inside.near;
    over = subst (λ s. (pos 0) <ℤ s) (sym (turn_sum (t.u *ℤ b.z) (t.v *ℤ c.z) (t.w *ℤ a.z))) t.inside.over;
  };
}

pub turn_closed : (r : ℤ) (a b c : Offset) → Closed r b c a → Closed r a b c
turn_closed r a b c t = record {
  u = t.w;
  v = t.u;
  w = t.v;
  u_ok = t.w_ok;
  v_ok = t.u_ok;
  w_ok = t.v_ok;
  near = turn_near r a b c t.u t.v t.w t.near;
  level = subst (λ s. (pos 0) ≤ℤ s) (sym (turn_sum (t.u *ℤ b.z) (t.v *ℤ c.z) (t.w *ℤ a.z))) t.level;
}

pub turn_level : (r : ℤ) (a b c : Offset) → OnLevel r b c a → OnLevel r a b c
turn_level r a b c t = record {
  u = t.w;
  v = t.u;
  w = t.v;
  u_ok = t.w_ok;
  v_ok = t.u_ok;
  w_ok = t.v_ok;
  near = turn_near r a b c t.u t.v t.w t.near;
  level = turn_sum (t.u *ℤ b.z) (t.v *ℤ c.z) (t.w *ℤ a.z) ∙ t.level;
}

pub turn_clear : (r : ℤ) (a b c : Offset) → EdgesClear r a b c → EdgesClear r b c a
turn_clear r a b c k = record { ab = k.bc; bc = k.ca; ca = k.ab }

pub gone_third : (x y c w : ℤ) → w ≡ pos 0 → (x +ℤ y) +ℤ w *ℤ c ≡ x +ℤ y
gone_third x y c w e = rw e (let z = zero-mul-ℤ c in omega (arith, ints))

pub gone_first : (a x y u : ℤ) → u ≡ pos 0 → (u *ℤ a +ℤ x) +ℤ y ≡ x +ℤ y
gone_first a x y u e = rw e (let z = zero-mul-ℤ a in omega (arith, ints))

pub gone_second : (x b y v : ℤ) → v ≡ pos 0 → (x +ℤ v *ℤ b) +ℤ y ≡ y +ℤ x
gone_second x b y v e = rw e (let z = zero-mul-ℤ b in omega (arith, ints))

-- a point of an edge is one of the triangle
pub edge_touch : (r : ℤ) (p q s : Offset) → TouchesSegment r p q → TouchesTriangle r p q s
edge_touch r p q s t = record {
  u = t.u;
  v = t.v;
  w = pos 0;
  u_ok = t.u_ok;
  v_ok = t.v_ok;
  w_ok = omega (arith, ints);
  some = more t.u t.v t.some;
  inside = record {
    near = near_same (mean3 t.u t.v (pos 0) p q s).x (mean3 t.u t.v (pos 0) p q s).y ((t.u +ℤ t.v) +ℤ pos 0) (mean2 t.u t.v p q).x (mean2 t.u t.v p q).y (t.u +ℤ t.v) r
        (gone_third (t.u *ℤ p.x) (t.v *ℤ q.x) s.x (pos 0) refl) (gone_third (t.u *ℤ p.y) (t.v *ℤ q.y) s.y (pos 0) refl) (plain t.u t.v) t.inside.near;
    over = subst (λ t. (pos 0) <ℤ t) (sym (gone_third (t.u *ℤ p.z) (t.v *ℤ q.z) s.z (pos 0) refl)) t.inside.over;
  };
}
  where
    plain : (u v : ℤ) → (u +ℤ v) +ℤ pos 0 ≡ u +ℤ v
    plain u v = omega (arith, ints)

    more : (u v : ℤ) → (pos 0) <ℤ (u +ℤ v) → (pos 0) <ℤ ((u +ℤ v) +ℤ pos 0)
    more u v h = omega (arith, ints)

-- a triangle of two corners is a segment
fold : (r : ℤ) (p q : Offset) → TouchesTriangle r p q q → TouchesSegment r p q
fold r p q t = record {
  u = t.u;
  v = t.v +ℤ t.w;
  u_ok = t.u_ok;
  v_ok = sum2 t.v t.w t.v_ok t.w_ok;
  some = subst (λ s. (pos 0) <ℤ s) (grouped t.u t.v t.w) t.some;
  inside = record {
    near = near_same (mean2 t.u (t.v +ℤ t.w) p q).x (mean2 t.u (t.v +ℤ t.w) p q).y (t.u +ℤ (t.v +ℤ t.w)) (mean3 t.u t.v t.w p q q).x (mean3 t.u t.v t.w p q q).y ((t.u +ℤ t.v) +ℤ t.w) r
        (merged (t.u *ℤ p.x) t.v t.w q.x) (merged (t.u *ℤ p.y) t.v t.w q.y) (sym (grouped t.u t.v t.w)) t.inside.near;
    over = subst (λ s. (pos 0) <ℤ s) (sym (merged (t.u *ℤ p.z) t.v t.w q.z)) t.inside.over;
  };
}
  where
    grouped : (u v w : ℤ) → (u +ℤ v) +ℤ w ≡ u +ℤ (v +ℤ w)
    grouped u v w = omega (arith, ints)

    merged : (x v w q : ℤ) → x +ℤ (v +ℤ w) *ℤ q ≡ (x +ℤ v *ℤ q) +ℤ w *ℤ q
    merged x v w q = rw (add-mul-ℤ v w q) (omega (arith, ints))

-- where the first end is over the level, a near point of the segment on the level or over it gives one over it
pub segment_opened : (r : ℤ) (p q : Offset) (u v : ℤ) → (pos 0) <ℤ r → (pos 0) <ℤ p.z → (pos 0) ≤ℤ u → (pos 0) ≤ℤ v
    → apart (mean2 u v p q) <ℤ (square r *ℤ square (u +ℤ v)) → (pos 0) ≤ℤ (mean2 u v p q).z → TouchesSegment r p q
segment_opened r p q u v hr hp hu hv near level = fold r p q (opened r p q q hr hp (record {
  u = u;
  v = v;
  w = pos 0;
  u_ok = hu;
  v_ok = hv;
  w_ok = omega (arith, ints);
  near = near_same (mean3 u v (pos 0) p q q).x (mean3 u v (pos 0) p q q).y ((u +ℤ v) +ℤ pos 0) (mean2 u v p q).x (mean2 u v p q).y (u +ℤ v) r
      (gone_third (u *ℤ p.x) (v *ℤ q.x) q.x (pos 0) refl) (gone_third (u *ℤ p.y) (v *ℤ q.y) q.y (pos 0) refl) (plain u v) near;
  level = subst (λ t. (pos 0) ≤ℤ t) (sym (gone_third (u *ℤ p.z) (v *ℤ q.z) q.z (pos 0) refl)) level;
}))
  where
    plain : (u v : ℤ) → (u +ℤ v) +ℤ pos 0 ≡ u +ℤ v
    plain u v = omega (arith, ints)

-- the weights of a segment's point, from those of a near point of the triangle of which one is 0
pair : (r : ℤ) (p q : Offset) (u v x y z n : ℤ) → (mean2 u v p q).x ≡ x → (mean2 u v p q).y ≡ y → (mean2 u v p q).z ≡ z → n ≡ u *ℤ r +ℤ v *ℤ r
    → (pos 0) ≤ℤ u → (pos 0) ≤ℤ v → (x *ℤ x +ℤ y *ℤ y) <ℤ (n *ℤ n) → (pos 0) <ℤ z → TouchesSegment r p q
pair r p q u v x y z n ex ey ez en hu hv near over =
    let close = near_pair (mean2 u v p q).x (mean2 u v p q).y x y n u v r ex ey en near in
    record {
      u = u;
      v = v;
      u_ok = hu;
      v_ok = hv;
      some = some_of (mean2 u v p q).x (mean2 u v p q).y (u +ℤ v) r (sum2 u v hu hv) close;
      inside = record { near = close; over = subst (λ t. (pos 0) <ℤ t) (sym ez) over };
    }

-- no edge has a touch
pub clear_of : (r : ℤ) (a b c : Offset) → (pos 0) <ℤ r → EdgesClear r a b c → (OnLevel r a b c → ⊥) → Clear (corner r a) (corner r b) (corner r c)
clear_of r a b c hr k n = record {
  edge_bc = λ t e. k.bc (pair r b c t.v t.w _ _ _ _ (sym (gone_first a.x (t.v *ℤ b.x) (t.w *ℤ c.x) t.u e)) (sym (gone_first a.y (t.v *ℤ b.y) (t.w *ℤ c.y) t.u e))
      (sym (gone_first a.z (t.v *ℤ b.z) (t.w *ℤ c.z) t.u e)) (gone_first r (t.v *ℤ r) (t.w *ℤ r) t.u e) t.weights.v_ok t.weights.w_ok t.hit.near t.over);
  edge_ca = λ t e. k.ca (pair r c a t.w t.u _ _ _ _ (sym (gone_second (t.u *ℤ a.x) b.x (t.w *ℤ c.x) t.v e)) (sym (gone_second (t.u *ℤ a.y) b.y (t.w *ℤ c.y) t.v e))
      (sym (gone_second (t.u *ℤ a.z) b.z (t.w *ℤ c.z) t.v e)) (gone_second (t.u *ℤ r) r (t.w *ℤ r) t.v e) t.weights.w_ok t.weights.u_ok t.hit.near t.over);
  edge_ab = λ t e. k.ab (pair r a b t.u t.v _ _ _ _ (sym (gone_third (t.u *ℤ a.x) (t.v *ℤ b.x) c.x t.w e)) (sym (gone_third (t.u *ℤ a.y) (t.v *ℤ b.y) c.y t.w e))
      (sym (gone_third (t.u *ℤ a.z) (t.v *ℤ b.z) c.z t.w e)) (gone_third (t.u *ℤ r) (t.v *ℤ r) r t.w e) t.weights.u_ok t.weights.v_ok t.hit.near t.over);
  level = λ u v w s h e. n (record {
    u = u;
    v = v;
    w = w;
    u_ok = s.u_ok;
    v_ok = s.v_ok;
    w_ok = s.w_ok;
    near = near_from (mean3 u v w a b c).x (mean3 u v w a b c).y (mean3 u v w a b c).x (mean3 u v w a b c).y ((u *ℤ r +ℤ v *ℤ r) +ℤ w *ℤ r) u v w r refl refl refl h.near;
    level = e;
  });
}
