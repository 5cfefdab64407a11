-- A triangle and the open cylinder over the level: the edges, the axis and the level line find each touch.
use Rattle.std.proofs.Common.{◌≡◌, inl, inr, arith}
use lib.IntN.{ℤ, pos, ◌+ℤ◌, ◌-ℤ◌, ◌*ℤ◌}
use lib.Signed.{◌<ℤ◌, ◌≤ℤ◌}
use Rattle.std.proofs.lemmas.Int.{ints}
use Rattle.mill_base.proofs.Exit.{split_lt}
use Rattle.mill_geom.specs.declared.offset.Offset.{Offset}
use Rattle.mill_geom.specs.Forms.{cross_of, IsPierced, IsOver}
use Rattle.mill_geom.specs.Contacts.{TouchesTriangle, OnLevel, EdgesClear}
use Rattle.mill_geom.proofs.FlatTriangle.{Pierced, complete, pierced_touches}
use Rattle.mill_geom.proofs.Triangles.{cross_still, opposite}
use Rattle.mill_geom.proofs.Corners.{corner, touch_hit, hit_touch, clear_of}
use Rattle.mill_geom.proofs.LevelCerts.{pierced_time, pierced_some, turned_over, turned_back, low_sum}

-- weights that give a height over the level aren't all 0
pub some_weight : (i j k x y z : ℤ) → (pos 0) ≤ℤ i → (pos 0) ≤ℤ j → (pos 0) ≤ℤ k → (pos 0) <ℤ ((i *ℤ x +ℤ j *ℤ y) +ℤ k *ℤ z) → (pos 0) <ℤ ((i +ℤ j) +ℤ k)
some_weight i j k x y z hi hj hk h = elim (split_lt (pos 0) ((i +ℤ j) +ℤ k)) [
  | inl s ↦ s
  | inr s ↦ absurd (pierced_some i j k x y z (pos 0) (first i j k hi hj hk s) (second i j k hi hj hk s) (third i j k hi hj hk s) h)
]
  where
    first : (i j k : ℤ) → (pos 0) ≤ℤ i → (pos 0) ≤ℤ j → (pos 0) ≤ℤ k → ((i +ℤ j) +ℤ k) ≤ℤ pos 0 → i ≡ pos 0
    first i j k hi hj hk s = omega (arith, ints)

    second : (i j k : ℤ) → (pos 0) ≤ℤ i → (pos 0) ≤ℤ j → (pos 0) ≤ℤ k → ((i +ℤ j) +ℤ k) ≤ℤ pos 0 → j ≡ pos 0
    second i j k hi hj hk s = omega (arith, ints)

    third : (i j k : ℤ) → (pos 0) ≤ℤ i → (pos 0) ≤ℤ j → (pos 0) ≤ℤ k → ((i +ℤ j) +ℤ k) ≤ℤ pos 0 → k ≡ pos 0
    third i j k hi hj hk s = omega (arith, ints)

opposed : (x : ℤ) → x ≤ℤ pos 0 → (pos 0) ≤ℤ (pos 0 -ℤ x)
opposed x h = omega (arith, ints)

unopposed : (x : ℤ) → (pos 0) ≤ℤ (pos 0 -ℤ x) → x ≤ℤ pos 0
unopposed x h = omega (arith, ints)

pierced : (r : ℤ) (a b c : Offset) (i j k : ℤ) → (pos 0) <ℤ r → (pos 0) ≤ℤ i → (pos 0) ≤ℤ j → (pos 0) ≤ℤ k → (pos 0) <ℤ ((i *ℤ a.z +ℤ j *ℤ b.z) +ℤ k *ℤ c.z)
    → Pierced (corner r a) (corner r b) (corner r c) i j k
pierced r a b c i j k hr hi hj hk h = record {
  weights = record { u_ok = hi; v_ok = hj; w_ok = hk };
  time = pierced_time i j k a.z b.z c.z r hi hj hk hr (some_weight i j k a.z b.z c.z hi hj hk h);
  over = h;
}

-- where the axis meets the triangle over the level, there is a touch
pub pierced_touch : (r : ℤ) (a b c : Offset) → (pos 0) <ℤ r → IsPierced a b c → TouchesTriangle r a b c
pierced_touch r a b c hr (inl p) =
    hit_touch r a b c (pierced_touches (corner r a) (corner r b) (corner r c) _ _ _ (cross_still (corner r a) (corner r b) (corner r c))
    (pierced r a b c (cross_of b c) (cross_of c a) (cross_of a b) hr p.first p.second p.third p.over))
pierced_touch r a b c hr (inr p) =
    hit_touch r a b c (pierced_touches (corner r a) (corner r b) (corner r c) _ _ _
    (opposite (corner r a) (corner r b) (corner r c) _ _ _ (cross_still (corner r a) (corner r b) (corner r c)))
    (pierced r a b c (pos 0 -ℤ cross_of b c) (pos 0 -ℤ cross_of c a) (pos 0 -ℤ cross_of a b) hr (opposed _ p.first) (opposed _ p.second) (opposed _ p.third)
    (turned_over (cross_of b c) (cross_of c a) (cross_of a b) a.z b.z c.z p.under)))

-- with the edges clear, the axis not through the triangle over the level and no near point on the level, there is no touch
pub no_touch : (r : ℤ) (a b c : Offset) → (pos 0) <ℤ r → EdgesClear r a b c → (IsPierced a b c → ⊥) → (OnLevel r a b c → ⊥) → TouchesTriangle r a b c → ⊥
no_touch r a b c hr edges axis level t =
    elim (complete (corner r a) (corner r b) (corner r c) (clear_of r a b c hr edges level) (touch_hit r a b c hr t)) [
      | inl p ↦ axis (inl (record { first = p.weights.u_ok; second = p.weights.v_ok; third = p.weights.w_ok; over = p.over }))
      | inr p ↦ axis (inr (record {
        first = unopposed _ p.weights.u_ok;
        second = unopposed _ p.weights.v_ok;
        third = unopposed _ p.weights.w_ok;
        under = turned_back (cross_of b c) (cross_of c a) (cross_of a b) a.z b.z c.z p.over;
      }))
    ]

-- with no corner over the level, there is no touch
pub under_misses : (r : ℤ) (a b c : Offset) → (IsOver a b c → ⊥) → TouchesTriangle r a b c → ⊥
under_misses r a b c under t = low_sum t.u t.v t.w a.z b.z c.z t.u_ok t.v_ok t.w_ok
    (low a.z (λ h. under (inl h))) (low b.z (λ h. under (inr (inl h)))) (low c.z (λ h. under (inr (inr h)))) t.inside.over
  where
    low : (x : ℤ) → ((pos 0) <ℤ x → ⊥) → x ≤ℤ pos 0
    low x n = elim (split_lt (pos 0) x) [ inl h ↦ absurd (n h) | inr h ↦ h ]
