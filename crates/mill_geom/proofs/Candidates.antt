-- The corners, and the points where edges cross the level, as points of the clipped triangle; with none of them below r, no point of it is.
use Rattle.std.proofs.Common.{◌≡◌, inl, inr, sym, ◌∙◌, subst, arith}
use lib.IntN.{ℤ, pos, ◌+ℤ◌, ◌-ℤ◌, ◌*ℤ◌}
use lib.Signed.{◌<ℤ◌, ◌≤ℤ◌}
use Rattle.std.proofs.lemmas.Int.{ints}
use Rattle.mill_base.proofs.Exit.{split_lt}
use Rattle.mill_geom.specs.declared.offset.Offset.{Offset}
use Rattle.mill_geom.specs.declared.spot.Spot.{Spot}
use Rattle.mill_geom.specs.Spots.{SpotInRange, IsBelow, AllBeyond, LowCorner, LowCrossing, crossing_of}
use Rattle.mill_geom.proofs.TriangleCerts.{one_x}
use Rattle.mill_geom.proofs.Clip.{AtCrossing, clip}
use Rattle.mill_geom.proofs.SideCerts.{spot_ab, spot_ab_level, spot_ab_time, spot_ba, spot_ba_level, beyond_cross, beyond_all}

weak : (x : ℤ) → (pos 0) <ℤ x → (pos 0) ≤ℤ x
weak x h = omega (arith, ints)

opposed : (x : ℤ) → x <ℤ pos 0 → (pos 0) ≤ℤ (pos 0 -ℤ x)
opposed x h = omega (arith, ints)

-- a low corner is a spot below
pub corner_below : (r : ℤ) (a b c : Offset) (s : Spot) → LowCorner r a → s.x ≡ a.x → s.y ≡ a.y → s.n ≡ pos 1 → SpotInRange s → IsBelow r a b c s
corner_below r a b c s l ex ey en range = record {
  spot = record {
    u = pos 1;
    v = pos 0;
    w = pos 0;
    u_ok = omega (arith, ints);
    v_ok = omega (arith, ints);
    w_ok = omega (arith, ints);
    some = rw en (omega (arith, ints));
    time = en;
    x_is = ex ∙ sym (one_x a.x b.x c.x);
    y_is = ey ∙ sym (one_x a.y b.y c.y);
    level = subst (λ t. (pos 0) ≤ℤ t) (sym (one_x a.z b.z c.z)) l.level;
  };
  range = range;
  below = rw (ey, en) (times_one a.y r l.below);
}
  where
    times_one : (y r : ℤ) → y <ℤ r → y <ℤ (r *ℤ pos 1)
    times_one y r h = omega (arith, ints)

positive : (z w : ℤ) → (pos 0) <ℤ z → w <ℤ pos 0 → (pos 0) <ℤ (z -ℤ w)
positive z w h k = omega (arith, ints)

-- a low crossing of the first edge, from either end
pub crossing_below : (r : ℤ) (a b c : Offset) (s : Spot) → LowCrossing r a b → s.x ≡ crossing_of a.z b.z a.x b.x → s.y ≡ crossing_of a.z b.z a.y b.y → s.n ≡ a.z -ℤ b.z → SpotInRange s → IsBelow r a b c s
crossing_below r a b c s l ex ey en range = record {
  spot = record {
    u = pos 0 -ℤ b.z;
    v = a.z;
    w = pos 0;
    u_ok = opposed b.z l.down;
    v_ok = weak a.z l.up;
    w_ok = omega (arith, ints);
    some = rw en (positive a.z b.z l.up l.down);
    time = en ∙ sym (spot_ab_time a.z b.z);
    x_is = ex ∙ sym (spot_ab a.z b.z a.x b.x c.x);
    y_is = ey ∙ sym (spot_ab a.z b.z a.y b.y c.y);
    level = spot_ab_level a.z b.z c.z;
  };
  range = range;
  below = rw (ey, en) l.below;
}

pub crossing_back : (r : ℤ) (a b c : Offset) (s : Spot) → LowCrossing r b a → s.x ≡ crossing_of b.z a.z b.x a.x → s.y ≡ crossing_of b.z a.z b.y a.y → s.n ≡ b.z -ℤ a.z → SpotInRange s → IsBelow r a b c s
crossing_back r a b c s l ex ey en range = record {
  spot = record {
    u = b.z;
    v = pos 0 -ℤ a.z;
    w = pos 0;
    u_ok = weak b.z l.up;
    v_ok = opposed a.z l.down;
    w_ok = omega (arith, ints);
    some = rw en (positive b.z a.z l.up l.down);
    time = en ∙ back_time b.z a.z;
    x_is = ex ∙ sym (spot_ba b.z a.z b.x a.x c.x);
    y_is = ey ∙ sym (spot_ba b.z a.z b.y a.y c.y);
    level = spot_ba_level b.z a.z c.z;
  };
  range = range;
  below = rw (ey, en) l.below;
}
  where
    back_time : (z w : ℤ) → z -ℤ w ≡ (z +ℤ (pos 0 -ℤ w)) +ℤ pos 0
    back_time z w = omega (arith, ints)

-- the corners in another order
pub turn_below : (r : ℤ) (a b c : Offset) (s : Spot) → IsBelow r b c a s → IsBelow r a b c s
turn_below r a b c s t =
    let k = t.spot in
    record {
      spot = record {
        u = k.w;
        v = k.u;
        w = k.v;
        u_ok = k.w_ok;
        v_ok = k.u_ok;
        w_ok = k.v_ok;
        some = k.some;
        time = k.time ∙ turned k.u k.v k.w;
        x_is = k.x_is ∙ turned (k.u *ℤ b.x) (k.v *ℤ c.x) (k.w *ℤ a.x);
        y_is = k.y_is ∙ turned (k.u *ℤ b.y) (k.v *ℤ c.y) (k.w *ℤ a.y);
        level = subst (λ s. (pos 0) ≤ℤ s) (turned (k.u *ℤ b.z) (k.v *ℤ c.z) (k.w *ℤ a.z)) k.level;
      };
      range = t.range;
      below = t.below;
    }
  where
    turned : (x y z : ℤ) → (x +ℤ y) +ℤ z ≡ (z +ℤ x) +ℤ y
    turned x y z = omega (arith, ints)

corner : (r : ℤ) (p : Offset) → (LowCorner r p → ⊥) → (pos 0) ≤ℤ p.z → (pos 0) ≤ℤ (p.y -ℤ r)
corner r p n h = elim (split_lt p.y r) [ inl l ↦ absurd (n (record { level = h; below = l })) | inr l ↦ over p.y r l ]
  where
    over : (y r : ℤ) → r ≤ℤ y → (pos 0) ≤ℤ (y -ℤ r)
    over y r h = omega (arith, ints)

cross : (r : ℤ) (p q : Offset) → (LowCrossing r p q → ⊥) → AtCrossing p.z q.z (p.y -ℤ r) (q.y -ℤ r)
cross r p q n up down = elim (split_lt (crossing_of p.z q.z p.y q.y) (r *ℤ (p.z -ℤ q.z))) [
  | inl l ↦ absurd (n (record { up = up; down = down; below = l }))
  | inr l ↦ beyond_cross r p.z q.z p.y q.y l
]

-- with no low corner and no low crossing, the whole clipped triangle is beyond r
pub all_beyond : (r : ℤ) (a b c : Offset) → (LowCorner r a → ⊥) → (LowCorner r b → ⊥) → (LowCorner r c → ⊥)
    → (LowCrossing r a b → ⊥) → (LowCrossing r b a → ⊥) → (LowCrossing r b c → ⊥) → (LowCrossing r c b → ⊥) → (LowCrossing r c a → ⊥) → (LowCrossing r a c → ⊥) → AllBeyond r a b c
all_beyond r a b c na nb nc ab ba bc cb ca ac u v w hu hv hw hz =
    beyond_all u v w a.y b.y c.y r (clip u v w a.z b.z c.z (a.y -ℤ r) (b.y -ℤ r) (c.y -ℤ r) hu hv hw (corner r a na) (corner r b nb) (corner r c nc)
    (cross r a b ab) (cross r b a ba) (cross r b c bc) (cross r c b cb) (cross r c a ca) (cross r a c ac) hz)
