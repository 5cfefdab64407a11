-- By halving, a move passes a triangle that is no higher than both its ends, or that stays far enough from it in x or in y.
use Rattle.std.specs.Prelude.{◌≡◌, ℕ, zero, suc, ◌+◌, ◌*◌, ◌^◌, ◌<◌, ◌≤◌, nat_abs, ℤ, pos, negsuc, ◌+ℤ◌, ◌-ℤ◌, ◌*ℤ◌, ◌<ℤ◌, ◌≤ℤ◌, int_lt, Bool, true, false, cond}
use Rattle.std.proofs.Common.{inl, inr, refl, subst, sym, arith}
use Rattle.std.proofs.lemmas.Int.{ints}
use Rattle.std.proofs.lemmas.Nat.{pow_pos}
use Rattle.mill_base.proofs.Divisions.{floor_div_high, half_low, half_high}
use Rattle.mill_base.proofs.Exit.{split_lt}
use Rattle.mill_base.specs.Numbers.{lesser, greater}
use Rattle.mill_base.specs.Points.{highest, plus, times}
use Rattle.mill_base.specs.Contact.{Holds, Touches}
use Rattle.mill_base.specs.Ranges.{TriInRange}
use Rattle.mill_base.specs.Sizes.{IsCutter, radius_of, outer}
use Rattle.mill_base.specs.declared.points.Tri.{Tri}
use Rattle.mill_base.specs.declared.motion.Move.{Move}
use Rattle.mill_base.specs.declared.cutter.Cutter.{Cutter}
use Rattle.mill_base.specs.declared.cutter.Cutter.TheVariants.{Flat, Ball, Cone}
use Rattle.mill_base.specs.declared.limits.TheConstants.{MAX_COORDINATE, MAX_LAST_REACH}
use Rattle.mill_shape.proofs.Holding.{holds_around}
use Rattle.mill_sweep.specs.Lifted.{IsLiftedMove}
use Rattle.mill_sweep.specs.Leaves.{depth_of, end_of, middle_of, lower_of, reach_of, span_of, outer_tip}
use Rattle.mill_sweep.specs.Halving.{IsFree, LeafPasses, HalvingPasses, middle_point}
use Rattle.mill_sweep.specs.Apart.{LiesBeside, LieOver, LieUnder, LieApart}
use Rattle.mill_sweep.proofs.Halves.{left_place, right_place}
use Rattle.mill_sweep.proofs.LeafCerts.{end_high, end_least, mean_most, mean_least, quotient_least, point_east, point_west, too_far_east, too_far_west}
use Rattle.mill_sweep.proofs.Narrow.{reach_at_depth}
use Rattle.mill_sweep.proofs.Passing.{radius_least}
use Rattle.mill_sweep.proofs.Spans.{parts_twice}

some : (n : ℕ) → 0 < n → (pos 0) <ℤ pos n
some n h = omega (arith, ints)

twice : (n : ℕ) (q : ℤ) → pos (2 * n) *ℤ q ≡ pos n *ℤ q +ℤ pos n *ℤ q
twice n (pos a) = omega (arith, ints)
twice n (negsuc a) = omega (arith, ints)

-- the middle of a leaf is at most, and at least, what both its ends are
module _ (f t g : ℤ) (d k : ℕ) where
  pub middle_under : end_of f t d k ≤ℤ (pos (2 ^ d) *ℤ g) → end_of f t d (k + 1) ≤ℤ (pos (2 ^ d) *ℤ g) → middle_of f t d k ≤ℤ g
  middle_under p q =
      mean_most (pos (2 ^ (d + 1))) g (middle_of f t d k) (end_of f t d k +ℤ end_of f t d (k + 1)) (some (2 ^ (d + 1)) (pow_pos (d + 1)))
      (half_low (end_of f t d k +ℤ end_of f t d (k + 1)) (2 ^ (d + 1)) (pow_pos (d + 1)))
      (subst (λ n. (end_of f t d k +ℤ end_of f t d (k + 1)) ≤ℤ (pos n *ℤ g)) (sym (parts_twice d)) (sum (2 ^ d) (end_of f t d k) (end_of f t d (k + 1)) p q))
    where
      sum : (n : ℕ) (a b : ℤ) → a ≤ℤ (pos n *ℤ g) → b ≤ℤ (pos n *ℤ g) → (a +ℤ b) ≤ℤ (pos (2 * n) *ℤ g)
      sum n a b p q = let e = twice n g in omega (arith, ints)

  pub middle_over : (pos (2 ^ d) *ℤ g) ≤ℤ end_of f t d k → (pos (2 ^ d) *ℤ g) ≤ℤ end_of f t d (k + 1) → g ≤ℤ middle_of f t d k
  middle_over p q =
      mean_least (pos (2 ^ (d + 1))) g (middle_of f t d k) (end_of f t d k +ℤ end_of f t d (k + 1)) (some (2 ^ (d + 1)) (pow_pos (d + 1)))
      (half_high (end_of f t d k +ℤ end_of f t d (k + 1)) (2 ^ (d + 1)) (pow_pos (d + 1)))
      (subst (λ n. (pos n *ℤ g) ≤ℤ (end_of f t d k +ℤ end_of f t d (k + 1))) (sym (parts_twice d)) (sum (2 ^ d) (end_of f t d k) (end_of f t d (k + 1)) p q))
    where
      sum : (n : ℕ) (a b : ℤ) → (pos n *ℤ g) ≤ℤ a → (pos n *ℤ g) ≤ℤ b → (pos (2 * n) *ℤ g) ≤ℤ (a +ℤ b)
      sum n a b p q = let e = twice n g in omega (arith, ints)

-- what both ends of a move are at most, or at least, so are the ends of its leaves
module _ (f t g : ℤ) (d k : ℕ) (inside : k < 2 ^ d) where
  first_most : f ≤ℤ g → t ≤ℤ g → end_of f t d k ≤ℤ (pos (2 ^ d) *ℤ g)
  first_most p q = end_high (pos (2 ^ d)) (pos k) f t g (omega (arith, ints)) (omega (arith, ints)) p q

  last_most : f ≤ℤ g → t ≤ℤ g → end_of f t d (k + 1) ≤ℤ (pos (2 ^ d) *ℤ g)
  last_most p q = end_high (pos (2 ^ d)) (pos (k + 1)) f t g (omega (arith, ints)) (omega (arith, ints)) p q

  first_least : g ≤ℤ f → g ≤ℤ t → (pos (2 ^ d) *ℤ g) ≤ℤ end_of f t d k
  first_least p q = end_least (pos (2 ^ d)) (pos k) f t g (omega (arith, ints)) (omega (arith, ints)) p q

  last_least : g ≤ℤ f → g ≤ℤ t → (pos (2 ^ d) *ℤ g) ≤ℤ end_of f t d (k + 1)
  last_least p q = end_least (pos (2 ^ d)) (pos (k + 1)) f t g (omega (arith, ints)) (omega (arith, ints)) p q

  -- and so is the middle of a leaf
  pub middle_most : f ≤ℤ g → t ≤ℤ g → middle_of f t d k ≤ℤ g
  middle_most p q = middle_under f t g d k (first_most p q) (last_most p q)

  pub middle_least : g ≤ℤ f → g ≤ℤ t → g ≤ℤ middle_of f t d k
  middle_least p q = middle_over f t g d k (first_least p q) (last_least p q)

  -- and the lower end
  pub lower_least : g ≤ℤ f → g ≤ℤ t → g ≤ℤ lower_of f t d k
  lower_least p q =
      quotient_least (pos (2 ^ d)) (lower_of f t d k) (lesser (end_of f t d k) (end_of f t d (k + 1))) g (some (2 ^ d) (pow_pos d))
      (floor_div_high (lesser (end_of f t d k) (end_of f t d (k + 1))) (2 ^ d) (pow_pos d))
      (both (int_lt (end_of f t d (k + 1)) (end_of f t d k)) (first_least p q) (last_least p q))
    where
      both : (b : Bool) {x y z : ℤ} → x ≤ℤ y → x ≤ℤ z → x ≤ℤ cond b z y
      both true p q = q
      both false p q = p

-- three numbers at least r over both ends are so over the middle, and likewise under it
module _ (r f t a b c : ℤ) (d k : ℕ) (inside : k < 2 ^ d) where
  over_middle : LieOver r f t a b c → LieOver r (middle_of f t d k) (middle_of f t d k) a b c
  over_middle l = elim (split_lt f t) [
    | inl less ↦ let most = middle_most f t t d k inside (at_most f t less) (same t) in over (up _ t a r most l.a_f) (up _ t b r most l.b_f) (up _ t c r most l.c_f)
    | inr more ↦ let most = middle_most f t f d k inside (same f) more in over (up _ f a r most l.a_e) (up _ f b r most l.b_e) (up _ f c r most l.c_e)
  ]
    where
      same : (x : ℤ) → x ≤ℤ x
      same x = omega (arith, ints)

      at_most : (x y : ℤ) → x <ℤ y → x ≤ℤ y
      at_most x y h = omega (arith, ints)

      up : (m x y s : ℤ) → m ≤ℤ x → (x +ℤ s) ≤ℤ y → (m +ℤ s) ≤ℤ y
      up m x y s p q = omega (arith, ints)

      over : {m : ℤ} → (m +ℤ r) ≤ℤ a → (m +ℤ r) ≤ℤ b → (m +ℤ r) ≤ℤ c → LieOver r m m a b c
      over p q s = record { a_e = p; b_e = q; c_e = s; a_f = p; b_f = q; c_f = s }

  under_middle : LieUnder r f t a b c → LieUnder r (middle_of f t d k) (middle_of f t d k) a b c
  under_middle l = elim (split_lt f t) [
    | inl less ↦ let least = middle_least f t f d k inside (same f) (at_most f t less) in under (down _ f a r least l.a_e) (down _ f b r least l.b_e) (down _ f c r least l.c_e)
    | inr more ↦ let least = middle_least f t t d k inside more (same t) in under (down _ t a r least l.a_f) (down _ t b r least l.b_f) (down _ t c r least l.c_f)
  ]
    where
      same : (x : ℤ) → x ≤ℤ x
      same x = omega (arith, ints)

      at_most : (x y : ℤ) → x <ℤ y → x ≤ℤ y
      at_most x y h = omega (arith, ints)

      down : (m x y s : ℤ) → x ≤ℤ m → (y +ℤ s) ≤ℤ x → (y +ℤ s) ≤ℤ m
      down m x y s p q = omega (arith, ints)

      under : {m : ℤ} → (a +ℤ r) ≤ℤ m → (b +ℤ r) ≤ℤ m → (c +ℤ r) ≤ℤ m → LieUnder r m m a b c
      under p q s = record { a_e = p; b_e = q; c_e = s; a_f = p; b_f = q; c_f = s }

  pub apart_from_middle : LieApart r f t a b c → LieApart r (middle_of f t d k) (middle_of f t d k) a b c
  apart_from_middle (inl h) = inl (over_middle h)
  apart_from_middle (inr h) = inr (under_middle h)

-- a mean of three numbers that are far from m is no nearer to it
mean_far : (u v w n R q m a b c : ℤ) → (pos 0) ≤ℤ u → (pos 0) ≤ℤ v → (pos 0) ≤ℤ w → n ≡ (u +ℤ v) +ℤ w → (pos 0) <ℤ n → q ≤ℤ pos 2 → LieApart (R +ℤ pos 2) m m a b c
    → ((pos 1 *ℤ ((u *ℤ a +ℤ v *ℤ b) +ℤ w *ℤ c)) -ℤ n *ℤ m) <ℤ ((R +ℤ q) *ℤ (pos 1 *ℤ n))
    → ((pos 0) -ℤ ((pos 1 *ℤ ((u *ℤ a +ℤ v *ℤ b) +ℤ w *ℤ c)) -ℤ n *ℤ m)) <ℤ ((R +ℤ q) *ℤ (pos 1 *ℤ n)) → ⊥
mean_far u v w n R q m a b c hu hv hw e hn hq (inl over) east west =
    too_far_east n ((u *ℤ a +ℤ v *ℤ b) +ℤ w *ℤ c) m R q hn hq
    (rw e (point_east u v w a b c m (R +ℤ pos 2) hu hv hw over.a_e over.b_e over.c_e)) east
mean_far u v w n R q m a b c hu hv hw e hn hq (inr under) east west =
    too_far_west n ((u *ℤ a +ℤ v *ℤ b) +ℤ w *ℤ c) m R q hn hq
    (rw e (point_west u v w a b c m (R +ℤ pos 2) hu hv hw under.a_e under.b_e under.c_e)) west

-- the radius of the outer cutter
outer_radius : (cutter : Cutter) (q : ℤ) → radius_of (outer cutter q) ≡ radius_of cutter +ℤ q
outer_radius (Flat r) q = refl
outer_radius (Ball r) q = refl
outer_radius (Cone r a b) q = refl

-- the triangle lies at least r away from a leaf's middle in x or in y
abbrev pub IsBeside : ℤ → Move → Tri → ℕ → ℕ → Type 0
IsBeside r move tri d k = LiesBeside r (middle_point (span_of move d k)) (middle_point (span_of move d k)) tri

-- where that is the radius and the last reach, the outer cutter of a leaf whose reach is at most that doesn't touch it
far_is_clear : (cutter : Cutter) (move : Move) (tri : Tri) (d k : ℕ) → IsCutter cutter → reach_of move d k ≤ MAX_LAST_REACH → IsBeside (radius_of cutter +ℤ pos MAX_LAST_REACH) move tri d k
    → Touches (outer cutter (pos (reach_of move d k))) (pos 1) (outer_tip cutter (span_of move d k)) tri → ⊥
far_is_clear cutter move tri d k cutter_ok narrow far touches =
    let p = touches.point in
    let q = reach_of move d k in
    let tip = outer_tip cutter (span_of move d k) in
    let wide = outer cutter (pos q) in
    let held : Holds wide (pos 1) tip touches.n (plus (plus (times p.u tri.a) (times p.v tri.b)) (times p.w tri.c)) = subst (λ s. Holds wide (pos 1) tip touches.n s) p.place touches.inside in
    let near = holds_around wide (pos 1) tip touches.n (plus (plus (times p.u tri.a) (times p.v tri.b)) (times p.w tri.c)) (rw (outer_radius cutter (pos q)) (grown (radius_of cutter) q (radius_least cutter cutter_ok))) (omega (arith, ints)) p.some held in
    elim far [
      | inl x ↦ mean_far p.u p.v p.w touches.n (radius_of cutter) (pos q) (middle_of move.from.x move.to.x d k) tri.a.x tri.b.x tri.c.x p.u_ok p.v_ok p.w_ok p.weights p.some (small q narrow) x
          (rw (outer_radius cutter (pos q)) at near.east) (rw (outer_radius cutter (pos q)) at near.west)
      | inr y ↦ mean_far p.u p.v p.w touches.n (radius_of cutter) (pos q) (middle_of move.from.y move.to.y d k) tri.a.y tri.b.y tri.c.y p.u_ok p.v_ok p.w_ok p.weights p.some (small q narrow) y
          (rw (outer_radius cutter (pos q)) at near.north) (rw (outer_radius cutter (pos q)) at near.south)
    ]
  where
    grown : (r : ℤ) (q : ℕ) → (pos 1) ≤ℤ r → (pos 1) ≤ℤ (r +ℤ pos q)
    grown r q h = omega (arith, ints)

    small : (q : ℕ) → q ≤ MAX_LAST_REACH → pos q ≤ℤ pos MAX_LAST_REACH
    small q h = omega (arith, ints)

-- so a leaf passes if what is so of it is so of its halves, and puts the triangle beside each
module _ (cutter : Cutter) (move : Move) (tri : Tri) (P : ℕ → ℕ → Type 0) (left : (d k : ℕ) → P d k → P (d + 1) (2 * k)) (right : (d k : ℕ) → P d k → P (d + 1) (2 * k + 1))
    (beside : (d k : ℕ) → P d k → IsBeside (radius_of cutter +ℤ pos MAX_LAST_REACH) move tri d k) (cutter_ok : IsCutter cutter) (range : IsLiftedMove move) where
  pub far_leaf : (more d k : ℕ) → d + more ≡ depth_of move → P d k → LeafPasses cutter move tri more d k
  far_leaf zero d k deep p =
      let bottom : d ≡ depth_of move = omega arith in
      let narrow : reach_of move d k ≤ MAX_LAST_REACH = subst (λ e. reach_of move e k ≤ MAX_LAST_REACH) (sym bottom) (reach_at_depth move k range) in
      inl (omega arith, λ blocks. far_is_clear cutter move tri d k cutter_ok narrow (beside d k p) blocks.touches)
  far_leaf (suc more) d k deep p = inr (far_leaf more (d + 1) (2 * k) (omega arith) (left d k p), far_leaf more (d + 1) (2 * k + 1) (omega arith) (right d k p))

-- a leaf at or over the highest point passes by itself
pub least_top : (a b c h : ℤ) → a ≤ℤ h → b ≤ℤ h → c ≤ℤ h → greater a (greater b c) ≤ℤ h
least_top a b c h p q r = by (int_lt a (greater b c)) (int_lt b c)
  where
    by : (s t : Bool) → cond s (cond t c b) a ≤ℤ h
    by true true = r
    by true false = q
    by false t = p

pub highest_within : (tri : Tri) → TriInRange tri → highest tri ≤ℤ pos MAX_COORDINATE
highest_within tri ok = least_top tri.a.z tri.b.z tri.c.z (pos MAX_COORDINATE) (small tri.a.z ok.a_ok.z_ok.within) (small tri.b.z ok.b_ok.z_ok.within) (small tri.c.z ok.c_ok.z_ok.within)
  where
    small : (z : ℤ) → nat_abs z ≤ MAX_COORDINATE → z ≤ℤ pos MAX_COORDINATE
    small z h = omega (arith, ints)

pub top_passes : (cutter : Cutter) (move : Move) (tri : Tri) → highest tri ≤ℤ move.from.z → highest tri ≤ℤ move.to.z → HalvingPasses cutter move tri
top_passes cutter move tri from to = by (depth_of move)
  where
    free : IsFree cutter move tri 0 0
    free = inr (lower_least move.from.z move.to.z (highest tri) 0 0 (omega arith) from to)

    by : (more : ℕ) → LeafPasses cutter move tri more 0 0
    by zero = free
    by (suc more) = inl free

-- the move passes a triangle at least the radius and 2 beside it
pub beside_passes : (cutter : Cutter) (move : Move) (tri : Tri) → IsCutter cutter → IsLiftedMove move → LiesBeside (radius_of cutter +ℤ pos MAX_LAST_REACH) move.from move.to tri → HalvingPasses cutter move tri
beside_passes cutter move tri cutter_ok range (inl x) =
    far_leaf cutter move tri (λ d k. k < 2 ^ d) left_place right_place (λ d k inside. inl (apart_from_middle (radius_of cutter +ℤ pos MAX_LAST_REACH) move.from.x move.to.x tri.a.x tri.b.x tri.c.x d k inside x)) cutter_ok range (depth_of move) 0 0 (omega arith) (omega arith)
beside_passes cutter move tri cutter_ok range (inr y) =
    far_leaf cutter move tri (λ d k. k < 2 ^ d) left_place right_place (λ d k inside. inr (apart_from_middle (radius_of cutter +ℤ pos MAX_LAST_REACH) move.from.y move.to.y tri.a.y tri.b.y tri.c.y d k inside y)) cutter_ok range (depth_of move) 0 0 (omega arith) (omega arith)
