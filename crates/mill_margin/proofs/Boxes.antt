-- Where the ends of a move differ along one axis at most, the box of them is the straight way.
use Rattle.std.specs.Prelude.{◌≡◌, Bool, true, false, not, ℤ, pos, ◌+ℤ◌, ◌-ℤ◌, ◌*ℤ◌, ◌<ℤ◌, ◌≤ℤ◌, cond, int_lt}
use Rattle.std.specs.Ordering.{int_eq}
use Rattle.std.proofs.Common.{inl, inr, refl, sym, subst, ap, ◌∙◌, arith}
use Rattle.std.proofs.lemmas.Bool.Decides.{Decides-int_eq}
use Rattle.std.proofs.lemmas.Int.{ints}
use Rattle.mill_base.proofs.Exit.{split_lt}
use Rattle.mill_base.proofs.Extremes.{greater_of_less}
use Rattle.mill_base.proofs.Integers.{mul_pos-ℤ}
use Rattle.mill_base.proofs.Tips.{moment_is_tip}
use Rattle.mill_base.specs.Motion.{IsBetween, IsInBox, IsMoment, IsOnWay, IsTipOf, are_two, changes_two, differ}
use Rattle.mill_base.specs.Numbers.{lesser, greater}
use Rattle.mill_base.specs.Points.{times}
use Rattle.mill_base.specs.declared.motion.Move.{Move}
use Rattle.mill_base.specs.declared.points.Pt3.{Pt3}
use Rattle.mill_margin.proofs.NearbyCerts.{up_mean, down_mean, up_before, down_before, still_mean}

-- the place v over n, along one axis, is that of a moment from f to t, where v and n are multiplied by h
record IsMet (f t n v : ℤ) : Type 0 where
  h : ℤ
  k : ℤ
  moment : IsMoment k (n *ℤ h)
  place : h *ℤ v ≡ (n *ℤ h -ℤ k) *ℤ f +ℤ k *ℤ t

lesser_first : (a b : ℤ) → a ≤ℤ b → lesser a b ≡ a
lesser_first a b order = by (int_lt b a) refl
  where
    by : (t : Bool) → int_lt b a ≡ t → cond t b a ≡ a
    by true e = absurd (omega (arith, ints))
    by false e = refl

lesser_second : (a b : ℤ) → b ≤ℤ a → lesser a b ≡ b
lesser_second a b order = by (int_lt b a) refl
  where
    by : (t : Bool) → int_lt b a ≡ t → cond t b a ≡ b
    by true e = refl
    by false e = omega (arith, ints)

greater_second : (a b : ℤ) → a ≤ℤ b → greater a b ≡ b
greater_second a b order = by (int_lt a b) refl
  where
    by : (t : Bool) → int_lt a b ≡ t → cond t b a ≡ b
    by true e = refl
    by false e = omega (arith, ints)

rest : (a b : ℤ) → a ≤ℤ b → (pos 0) ≤ℤ (b -ℤ a)
rest a b order = omega (arith, ints)

more : (a b : ℤ) → a <ℤ b → (pos 0) <ℤ (b -ℤ a)
more a b order = omega (arith, ints)

up_to : (a b : ℤ) → a <ℤ b → a ≤ℤ b
up_to a b order = omega (arith, ints)

same : (a b : ℤ) → a ≤ℤ b → b ≤ℤ a → a ≡ b
same a b order back = omega (arith, ints)

-- between two places in order
met_up : (f t n v : ℤ) → (pos 0) <ℤ n → f <ℤ t → (n *ℤ f) ≤ℤ v → v ≤ℤ (n *ℤ t) → IsMet f t n v
met_up f t n v some order least most = record {
  h = t -ℤ f;
  k = v -ℤ n *ℤ f;
  moment = record { some = mul_pos-ℤ n (t -ℤ f) some (more f t order); after = rest (n *ℤ f) v least; before = up_before n f t v most };
  place = up_mean n f t v;
}

-- and in the other one
met_down : (f t n v : ℤ) → (pos 0) <ℤ n → t <ℤ f → (n *ℤ t) ≤ℤ v → v ≤ℤ (n *ℤ f) → IsMet f t n v
met_down f t n v some order least most = record {
  h = f -ℤ t;
  k = n *ℤ f -ℤ v;
  moment = record { some = mul_pos-ℤ n (f -ℤ t) some (more t f order); after = rest v (n *ℤ f) most; before = down_before n f t v least };
  place = down_mean n f t v;
}

-- where the two places are the same, the place between them is that one at each moment
still : (f t n v h k : ℤ) → f ≡ t → IsBetween f t n v → h *ℤ v ≡ (n *ℤ h -ℤ k) *ℤ f +ℤ k *ℤ t
still f t n v h k equal between =
    let least = subst (λ (p : ℤ). (n *ℤ p) ≤ℤ v) (lesser_first f t (equal_least f t equal)) between.least in
    let most = subst (λ (p : ℤ). v ≤ℤ (n *ℤ p)) (sym (greater_of_less f t (equal_most f t equal))) between.most in
    ap (λ (p : ℤ). h *ℤ p) (same v (n *ℤ f) most least) ∙ still_mean h k n f ∙ ap (λ (p : ℤ). (n *ℤ h -ℤ k) *ℤ f +ℤ k *ℤ p) equal
  where
    equal_least : (a b : ℤ) → a ≡ b → a ≤ℤ b
    equal_least a b e = omega (arith, ints)

    equal_most : (a b : ℤ) → a ≡ b → b ≤ℤ a
    equal_most a b e = omega (arith, ints)

met_still : (f t n v : ℤ) → (pos 0) <ℤ n → f ≡ t → IsBetween f t n v → IsMet f t n v
met_still f t n v some equal between = record {
  h = pos 1;
  k = pos 0;
  moment = record { some = mul_pos-ℤ n (pos 1) some one_some; after = none_least; before = up_to (pos 0) (n *ℤ pos 1) (mul_pos-ℤ n (pos 1) some one_some) };
  place = still f t n v (pos 1) (pos 0) equal between;
}
  where
    one_some : (pos 0) <ℤ pos 1
    one_some = omega (arith, ints)

    none_least : (pos 0) ≤ℤ pos 0
    none_least = omega (arith, ints)

met : (f t n v : ℤ) → (pos 0) <ℤ n → IsBetween f t n v → IsMet f t n v
met f t n v some between = elim (split_lt f t) [
  | inl up ↦ met_up f t n v some up
      (subst (λ (p : ℤ). (n *ℤ p) ≤ℤ v) (lesser_first f t (up_to f t up)) between.least)
      (subst (λ (p : ℤ). v ≤ℤ (n *ℤ p)) (greater_second f t (up_to f t up)) between.most)
  | inr back ↦ elim (split_lt t f) [
    | inl down ↦ met_down f t n v some down
        (subst (λ (p : ℤ). (n *ℤ p) ≤ℤ v) (lesser_second f t back) between.least)
        (subst (λ (p : ℤ). v ≤ℤ (n *ℤ p)) (sym (greater_of_less f t back)) between.most)
    | inr on ↦ met_still f t n v some (same f t on back) between
  ]
]

-- what is on the way is where the tip may be, whatever kind of move it is
pub way_is_tip : (m : Move) (n : ℤ) (t : Pt3) → IsOnWay m n t → IsTipOf m n t
way_is_tip m n t on = subst (λ (p : Pt3). IsTipOf m n p) (sym on.place) (moment_is_tip m on.k n on.moment)

-- the point t over n is on the way, where its numbers and n are multiplied by h
pub record IsOnScaled (m : Move) (n : ℤ) (t : Pt3) : Type 0 where
  pub h : ℤ
  pub on : IsOnWay m (n *ℤ h) (times h t)

module _ (m : Move) (n : ℤ) (t : Pt3) (box : IsInBox m n t) where
  -- at a moment of one axis, by what the three coordinates are then
  on_scaled : (h k : ℤ) → IsMoment k (n *ℤ h)
      → h *ℤ t.x ≡ (n *ℤ h -ℤ k) *ℤ m.from.x +ℤ k *ℤ m.to.x
      → h *ℤ t.y ≡ (n *ℤ h -ℤ k) *ℤ m.from.y +ℤ k *ℤ m.to.y
      → h *ℤ t.z ≡ (n *ℤ h -ℤ k) *ℤ m.from.z +ℤ k *ℤ m.to.z
      → IsOnScaled m n t
  on_scaled h k moment x y z = record { h = h; on = record { k = k; moment = moment; place = rw (x, y, z) refl } }

  still_x : m.from.x ≡ m.to.x → (h k : ℤ) → h *ℤ t.x ≡ (n *ℤ h -ℤ k) *ℤ m.from.x +ℤ k *ℤ m.to.x
  still_x e h k = still m.from.x m.to.x n t.x h k e box.x

  still_y : m.from.y ≡ m.to.y → (h k : ℤ) → h *ℤ t.y ≡ (n *ℤ h -ℤ k) *ℤ m.from.y +ℤ k *ℤ m.to.y
  still_y e h k = still m.from.y m.to.y n t.y h k e box.y

  still_z : m.from.z ≡ m.to.z → (h k : ℤ) → h *ℤ t.z ≡ (n *ℤ h -ℤ k) *ℤ m.from.z +ℤ k *ℤ m.to.z
  still_z e h k = still m.from.z m.to.z n t.z h k e box.z

  along_x : m.from.y ≡ m.to.y → m.from.z ≡ m.to.z → IsOnScaled m n t
  along_x e f = let a = met m.from.x m.to.x n t.x box.some box.x in on_scaled a.h a.k a.moment a.place (still_y e a.h a.k) (still_z f a.h a.k)

  along_y : m.from.x ≡ m.to.x → m.from.z ≡ m.to.z → IsOnScaled m n t
  along_y e f = let a = met m.from.y m.to.y n t.y box.some box.y in on_scaled a.h a.k a.moment (still_x e a.h a.k) a.place (still_z f a.h a.k)

  along_z : m.from.x ≡ m.to.x → m.from.y ≡ m.to.y → IsOnScaled m n t
  along_z e f = let a = met m.from.z m.to.z n t.z box.some box.z in on_scaled a.h a.k a.moment (still_x e a.h a.k) (still_y f a.h a.k) a.place

-- two places that don't differ are the same
undiffering : (a b : ℤ) → differ a b ≡ false → a ≡ b
undiffering a b = by (int_eq a b) refl
  where
    by : (t : Bool) → int_eq a b ≡ t → not t ≡ false → a ≡ b
    by true e h = (Decides-int_eq a b).0 e
    by false e h = cc

-- so of a move that changes no two coordinates what is in the box is on the way
pub box_is_way : (m : Move) (n : ℤ) (t : Pt3) → changes_two m ≡ false → IsInBox m n t → IsOnScaled m n t
box_is_way m n t one box = by (differ m.from.x m.to.x) (differ m.from.y m.to.y) (differ m.from.z m.to.z) refl refl refl one
  where
    by : (x y z : Bool) → differ m.from.x m.to.x ≡ x → differ m.from.y m.to.y ≡ y → differ m.from.z m.to.z ≡ z → are_two x y z ≡ false → IsOnScaled m n t
    by false false z ex ey ez h = along_z m n t box (undiffering _ _ ex) (undiffering _ _ ey)
    by false true false ex ey ez h = along_y m n t box (undiffering _ _ ex) (undiffering _ _ ez)
    by false true true ex ey ez h = cc
    by true false false ex ey ez h = along_x m n t box (undiffering _ _ ey) (undiffering _ _ ez)
    by true false true ex ey ez h = cc
    by true true z ex ey ez h = cc
