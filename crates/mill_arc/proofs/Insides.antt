-- The middle of a sector lies inside it.
use Rattle.std.specs.Prelude.{◌≡◌, Bool, true, false, ◌&&◌, if◌then◌else◌, ℤ, pos, ◌+ℤ◌, ◌-ℤ◌, ◌*ℤ◌, ◌<ℤ◌, ◌≤ℤ◌, int_le, int_lt}
use Rattle.std.proofs.Common.{refl, sym, ap, subst, ◌∙◌, arith}
use Rattle.std.proofs.lemmas.Int.{ints}
use Rattle.mill_arc.proofs.Middles.{way_is, way_long}
use Rattle.mill_arc.proofs.NodeCerts.{root_most, square_order}
use Rattle.mill_arc.proofs.Nodes.{lengthened_is, node_least, node_most}
use Rattle.mill_arc.proofs.Parted.{IsTurn}
use Rattle.mill_arc.proofs.Quads.{cosine, quad_of}
use Rattle.mill_arc.proofs.Sides.{IsClear, across_from, across_to, from_is, from_length, side_high, side_low, to_is, to_length}
use Rattle.mill_arc.proofs.Signs.{IsMiddle, back, near, round}
use Rattle.mill_arc.proofs.Decided.{both_and, false_lt, le_false, lt_false, lt_true, true_le, true_lt}
use Rattle.mill_arc.proofs.TurnCerts.{all_none, back_from, back_to, dot_turned, radii_less, radii_product, radii_some, seven_least, seven_sine, sine_least, sum_from_left, sum_from_right, sum_to_left, sum_to_right, way_double, way_from_left, way_from_right, way_to_left, way_to_right}
use Rattle.mill_arc.specs.Chords.{is_flat, is_short, middle, toward_middle}
use Rattle.mill_arc.specs.Vectors.{ahead, dot, opposite, plus, turned_way}
use Rattle.mill_arc.specs.declared.chords.Node.{Node}
use Rattle.mill_arc.specs.declared.chords.Turn.{Turn}
use Rattle.mill_arc.specs.declared.vectors.Vector.{Vector}
use Rattle.mill_arc.specs.inner.Nodes.{IsNode, IsRing}

through : (a b c : ℤ) → a ≤ℤ b → b ≤ℤ c → a ≤ℤ c
through a b c h k = omega (arith, ints)

-- ---- how long the vectors are

double : (m x : ℤ) → pos 1000 ≤ℤ m → m ≤ℤ x → x ≤ℤ (pos 2 *ℤ m) → ((x +ℤ pos 2) *ℤ (x +ℤ pos 2)) ≤ℤ ((pos 2 *ℤ (m +ℤ pos 1)) *ℤ (pos 2 *ℤ (m +ℤ pos 1)))
double m x some order twice = square_order (x +ℤ pos 2) (pos 2 *ℤ (m +ℤ pos 1)) (omega (arith, ints)) (omega (arith, ints))

node_double : (m x r : ℤ) (n : Node) → IsRing m x r → IsNode m x n → dot n.at n.at ≤ℤ ((pos 2 *ℤ (m +ℤ pos 1)) *ℤ (pos 2 *ℤ (m +ℤ pos 1)))
node_double m x r n ring node = through _ _ _ (node_most m x n ring.some node) (double m x ring.some (through m r x ring.least ring.most) ring.twice)

-- a vector as long as a node is clear of the middle's rounding
clear_of : (turn : Turn) (m x k : ℤ) (u v : Node) (a : Vector) → IsTurn turn m x k → IsNode m x u → IsNode m x v → dot a a ≤ℤ ((pos 2 *ℤ (m +ℤ pos 1)) *ℤ (pos 2 *ℤ (m +ℤ pos 1)))
    → IsClear m turn.radius a (toward_middle turn.counterclockwise u.at v.at) (middle turn u v).at
clear_of turn m x k u v a it from to short =
    let w = toward_middle turn.counterclockwise u.at v.at in
    let long = way_long m x turn.radius turn.counterclockwise u v it.ring from to in
    let way = way_is turn.counterclockwise u.at v.at in
    record {
      some = it.ring.some;
      radius = it.ring.least;
      short = short;
      way = way_double m (dot u.at u.at) (dot v.at v.at) (dot w w) (node_double m x turn.radius u it.ring from) (node_double m x turn.radius v it.ring to) way.most;
      made = lengthened_is m x turn.radius w it.ring long.long long.short (up_to (dot w w) long.some);
    }
  where
    up_to : (a : ℤ) → pos 1 ≤ℤ a → (pos 0) ≤ℤ a
    up_to a h = omega (arith, ints)

-- ---- on which sides the middle lies, where the way to it is clear

module _ (turn : Turn) (m x k : ℤ) (u v : Node) (it : IsTurn turn m x k) (from : IsNode m x u) (to : IsNode m x v) where
  behind_start : (pos 7 *ℤ m) ≤ℤ ahead turn.counterclockwise u.at (toward_middle turn.counterclockwise u.at v.at) → (pos 0) <ℤ ahead turn.counterclockwise u.at (middle turn u v).at
  behind_start h =
      let t = turn.counterclockwise in
      let a = across_from t u.at in
      subst (λ (z : ℤ). (pos 0) <ℤ z) (from_is t u.at (middle turn u v).at)
      (side_high m turn.radius a (toward_middle t u.at v.at) (middle turn u v).at
      (clear_of turn m x k u v a it from to (subst (λ (z : ℤ). z ≤ℤ ((pos 2 *ℤ (m +ℤ pos 1)) *ℤ (pos 2 *ℤ (m +ℤ pos 1)))) (sym (from_length t u.at)) (node_double m x turn.radius u it.ring from)))
      (subst (λ (z : ℤ). (pos 7 *ℤ m) ≤ℤ z) (sym (from_is t u.at (toward_middle t u.at v.at))) h))

  before_end : (pos 7 *ℤ m) ≤ℤ ahead turn.counterclockwise (toward_middle turn.counterclockwise u.at v.at) v.at → (pos 0) <ℤ ahead turn.counterclockwise (middle turn u v).at v.at
  before_end h =
      let t = turn.counterclockwise in
      let a = across_to t v.at in
      subst (λ (z : ℤ). (pos 0) <ℤ z) (to_is t v.at (middle turn u v).at)
      (side_high m turn.radius a (toward_middle t u.at v.at) (middle turn u v).at
      (clear_of turn m x k u v a it from to (subst (λ (z : ℤ). z ≤ℤ ((pos 2 *ℤ (m +ℤ pos 1)) *ℤ (pos 2 *ℤ (m +ℤ pos 1)))) (sym (to_length t v.at)) (node_double m x turn.radius v it.ring to)))
      (subst (λ (z : ℤ). (pos 7 *ℤ m) ≤ℤ z) (sym (to_is t v.at (toward_middle t u.at v.at))) h))

  off_start : dot u.at (toward_middle turn.counterclockwise u.at v.at) ≤ℤ (pos 0 -ℤ pos 7 *ℤ m) → dot u.at (middle turn u v).at <ℤ (pos 0)
  off_start h = side_low m turn.radius u.at (toward_middle turn.counterclockwise u.at v.at) (middle turn u v).at (clear_of turn m x k u v u.at it from to (node_double m x turn.radius u it.ring from)) h

  off_end : dot v.at (toward_middle turn.counterclockwise u.at v.at) ≤ℤ (pos 0 -ℤ pos 7 *ℤ m) → dot (middle turn u v).at v.at <ℤ (pos 0)
  off_end h = subst (λ (z : ℤ). z <ℤ (pos 0)) (sym (dot_turned (middle turn u v).at.first (middle turn u v).at.second v.at.first v.at.second))
      (side_low m turn.radius v.at (toward_middle turn.counterclockwise u.at v.at) (middle turn u v).at (clear_of turn m x k u v v.at it from to (node_double m x turn.radius v it.ring to)) h)

-- ---- the three ways

way_from : (t : Bool) (u v : Vector) → ahead t u (turned_way t u v) ≡ dot u u -ℤ dot u v
way_from true u v = way_from_left u.first u.second v.first v.second
way_from false u v = way_from_right u.first u.second v.first v.second

way_to : (t : Bool) (u v : Vector) → ahead t (turned_way t u v) v ≡ dot v v -ℤ dot u v
way_to true u v = way_to_left u.first u.second v.first v.second
way_to false u v = way_to_right u.first u.second v.first v.second

sum_from : (t : Bool) (u v : Vector) → ahead t u (plus u v) ≡ ahead t u v
sum_from true u v = sum_from_left u.first u.second v.first v.second
sum_from false u v = sum_from_right u.first u.second v.first v.second

sum_to : (t : Bool) (u v : Vector) → ahead t (plus u v) v ≡ ahead t u v
sum_to true u v = sum_to_left u.first u.second v.first v.second
sum_to false u v = sum_to_right u.first u.second v.first v.second

toward_round : (t : Bool) (u v : Vector) → dot u v <ℤ (pos 0) → toward_middle t u v ≡ turned_way t u v
unfolding toward_middle
toward_round t u v h = ap (λ (b : Bool). if b then turned_way t u v else (if int_lt (pos 0) (ahead t u v) then plus u v else opposite (plus u v))) (true_lt (dot u v) (pos 0) h)

toward_rest : (t : Bool) (u v : Vector) → (pos 0) ≤ℤ dot u v → toward_middle t u v ≡ (if int_lt (pos 0) (ahead t u v) then plus u v else opposite (plus u v))
unfolding toward_middle
toward_rest t u v h = ap (λ (b : Bool). if b then turned_way t u v else (if int_lt (pos 0) (ahead t u v) then plus u v else opposite (plus u v))) (false_lt (dot u v) (pos 0) h)

toward_near : (t : Bool) (u v : Vector) → (pos 0) ≤ℤ dot u v → (pos 0) <ℤ ahead t u v → toward_middle t u v ≡ plus u v
toward_near t u v h k = toward_rest t u v h ∙ ap (λ (b : Bool). if b then plus u v else opposite (plus u v)) (true_lt (pos 0) (ahead t u v) k)

toward_back : (t : Bool) (u v : Vector) → (pos 0) ≤ℤ dot u v → ahead t u v ≤ℤ (pos 0) → toward_middle t u v ≡ opposite (plus u v)
toward_back t u v h k = toward_rest t u v h ∙ ap (λ (b : Bool). if b then plus u v else opposite (plus u v)) (false_lt (pos 0) (ahead t u v) k)

-- ---- the three kinds of sectors

-- a sector that isn't short and is less than a quarter turn: how far its end lies ahead
bent : (turn : Turn) (u v : Node) → is_short turn u v ≡ false → (pos 0) ≤ℤ dot u.at v.at → (pos 0) <ℤ ahead turn.counterclockwise u.at v.at → turn.bend <ℤ (u.radius *ℤ v.radius -ℤ dot u.at v.at)
unfolding is_short
bent turn u v long quarter forward = by (int_le (u.radius *ℤ v.radius -ℤ dot u.at v.at) turn.bend) refl
  where
    differ : (s : Bool) → s ≡ true → s ≡ false → ⊥
    differ s p q = cc

    by : (t : Bool) → int_le (u.radius *ℤ v.radius -ℤ dot u.at v.at) turn.bend ≡ t → turn.bend <ℤ (u.radius *ℤ v.radius -ℤ dot u.at v.at)
    by false e = le_false (u.radius *ℤ v.radius -ℤ dot u.at v.at) turn.bend e
    by true e = absurd (differ (int_lt (pos 0) (ahead turn.counterclockwise u.at v.at) && is_flat turn u v (dot u.at v.at))
        (both_and (int_lt (pos 0) (ahead turn.counterclockwise u.at v.at)) (is_flat turn u v (dot u.at v.at)) (true_lt (pos 0) (ahead turn.counterclockwise u.at v.at) forward)
        (both_and (int_le (pos 0) (dot u.at v.at)) (int_le (u.radius *ℤ v.radius -ℤ dot u.at v.at) turn.bend) (true_le (pos 0) (dot u.at v.at) quarter) e)) long)

less_one : (m a : ℤ) → pos 1000 ≤ℤ m → m ≤ℤ a → (pos 0) ≤ℤ (a -ℤ pos 1)
less_one m a h k = omega (arith, ints)

sine_far : (turn : Turn) (m x k : ℤ) (u v : Node) → IsTurn turn m x k → pos 1000 ≤ℤ k → IsNode m x u → IsNode m x v → is_short turn u v ≡ false → (pos 0) ≤ℤ dot u.at v.at → (pos 0) <ℤ ahead turn.counterclockwise u.at v.at
    → (pos 7 *ℤ m) ≤ℤ ahead turn.counterclockwise u.at v.at
sine_far turn m x k u v it unit from to long quarter forward =
    let t = turn.counterclockwise in
    let bend = subst (λ (z : ℤ). z <ℤ (u.radius *ℤ v.radius -ℤ dot u.at v.at)) it.bend (bent turn u v long quarter forward) in
    let squares = through _ _ _
    (square_order (u.radius *ℤ v.radius -ℤ pos 4 *ℤ m) ((u.radius -ℤ pos 1) *ℤ (v.radius -ℤ pos 1)) (radii_some u.radius v.radius m k (dot u.at v.at) it.ring.some unit quarter bend)
    (radii_less u.radius v.radius m (through u.radius x (pos 2 *ℤ m) from.most it.ring.twice) (through v.radius x (pos 2 *ℤ m) to.most it.ring.twice)))
    (radii_product (dot u.at u.at) (dot v.at v.at) (u.radius -ℤ pos 1) (v.radius -ℤ pos 1) (less_one m u.radius it.ring.some from.least) (less_one m v.radius it.ring.some to.least) from.inner to.inner) in
    through _ _ _ (seven_sine m k it.ring.some unit)
    (root_most (pos 4 *ℤ (m *ℤ (k -ℤ pos 1))) (ahead t u.at v.at) (up_to (ahead t u.at v.at) forward)
    (sine_least (ahead t u.at v.at) (dot u.at v.at) (u.radius *ℤ v.radius) m k (wide m it.ring.some) (least k unit) quarter bend
    (subst (λ (z : ℤ). ((u.radius *ℤ v.radius -ℤ pos 4 *ℤ m) *ℤ (u.radius *ℤ v.radius -ℤ pos 4 *ℤ m)) ≤ℤ z) (cosine t u.at v.at v.at ∙ swapped (dot u.at v.at *ℤ dot u.at v.at) (ahead t u.at v.at *ℤ ahead t u.at v.at)) squares)))
  where
    up_to : (a : ℤ) → (pos 0) <ℤ a → (pos 0) ≤ℤ a
    up_to a h = omega (arith, ints)

    wide : (k : ℤ) → pos 1000 ≤ℤ k → (pos 0) ≤ℤ k
    wide k h = omega (arith, ints)

    least : (k : ℤ) → pos 1000 ≤ℤ k → pos 1 ≤ℤ k
    least k h = omega (arith, ints)

    swapped : (a b : ℤ) → a +ℤ b ≡ b +ℤ a
    swapped a b = omega (arith, ints)

-- ---- together

seven_more : (m p d : ℤ) → pos 1000 ≤ℤ m → ((m -ℤ pos 1) *ℤ (m -ℤ pos 1)) ≤ℤ p → d <ℤ (pos 0) → (pos 7 *ℤ m) ≤ℤ (p -ℤ d)
seven_more m p d some h k = by (seven_least m some)
  where
    by : (pos 7 *ℤ m) ≤ℤ ((m -ℤ pos 1) *ℤ (m -ℤ pos 1)) → (pos 7 *ℤ m) ≤ℤ (p -ℤ d)
    by l = sum ((m -ℤ pos 1) *ℤ (m -ℤ pos 1)) (pos 7 *ℤ m) l h
      where
        sum : (s a : ℤ) → a ≤ℤ s → s ≤ℤ p → a ≤ℤ (p -ℤ d)
        sum s a q r = omega (arith, ints)

seven_less : (m p d : ℤ) → pos 1000 ≤ℤ m → ((m -ℤ pos 1) *ℤ (m -ℤ pos 1)) ≤ℤ p → (pos 0) ≤ℤ d → (pos 0 -ℤ (p +ℤ d)) ≤ℤ (pos 0 -ℤ pos 7 *ℤ m)
seven_less m p d some h k = sum ((m -ℤ pos 1) *ℤ (m -ℤ pos 1)) (pos 7 *ℤ m) (seven_least m some) h
  where
    sum : (s a : ℤ) → a ≤ℤ s → s ≤ℤ p → (pos 0 -ℤ (p +ℤ d)) ≤ℤ (pos 0 -ℤ a)
    sum s a q r = omega (arith, ints)

some_of : (d : ℤ) → (pos 0) ≤ℤ d → (d ≡ pos 0 → ⊥) → (pos 0) <ℤ d
some_of d h f = by (int_lt (pos 0) d) refl
  where
    none : (d : ℤ) → (pos 0) ≤ℤ d → d ≤ℤ (pos 0) → d ≡ pos 0
    none d h k = omega (arith, ints)

    by : (b : Bool) → int_lt (pos 0) d ≡ b → (pos 0) <ℤ d
    by true e = lt_true (pos 0) d e
    by false e = absurd (f (none d h (lt_false (pos 0) d e)))

pub middle_inside : (turn : Turn) (m x k : ℤ) (u v : Node) (p : Vector) → IsTurn turn m x k → pos 1000 ≤ℤ k → IsNode m x u → IsNode m x v → is_short turn u v ≡ false
    → (u_some : (pos 0) <ℤ dot u.at u.at) (m_some : (pos 0) <ℤ dot (middle turn u v).at (middle turn u v).at) (p_some : (pos 0) <ℤ dot p p) → (pos 0) <ℤ dot v.at v.at
    → IsMiddle (quad_of turn.counterclockwise u.at (middle turn u v).at v.at p u_some m_some p_some)
middle_inside turn m x k u v p it unit from to long u_some m_some p_some v_some = by (int_lt (dot u.at v.at) (pos 0)) refl (int_lt (pos 0) (ahead turn.counterclockwise u.at v.at)) refl
  where
    less : (pos 0) ≤ℤ dot u.at v.at → (pos 0) <ℤ ahead turn.counterclockwise u.at v.at → (w : Vector) → toward_middle turn.counterclockwise u.at v.at ≡ w → w ≡ plus u.at v.at
        → ((pos 7 *ℤ m) ≤ℤ ahead turn.counterclockwise u.at (toward_middle turn.counterclockwise u.at v.at)) × ((pos 7 *ℤ m) ≤ℤ ahead turn.counterclockwise (toward_middle turn.counterclockwise u.at v.at) v.at)
    less quarter forward w e is =
        let far = sine_far turn m x k u v it unit from to long quarter forward in (
          subst (λ (y : Vector). (pos 7 *ℤ m) ≤ℤ ahead turn.counterclockwise u.at y) (sym (e ∙ is)) (subst (λ (z : ℤ). (pos 7 *ℤ m) ≤ℤ z) (sym (sum_from turn.counterclockwise u.at v.at)) far),
          subst (λ (y : Vector). (pos 7 *ℤ m) ≤ℤ ahead turn.counterclockwise y v.at) (sym (e ∙ is)) (subst (λ (z : ℤ). (pos 7 *ℤ m) ≤ℤ z) (sym (sum_to turn.counterclockwise u.at v.at)) far),
        )

    whole : (pos 0) ≤ℤ dot u.at v.at → ahead turn.counterclockwise u.at v.at ≡ pos 0 → (pos 0) <ℤ dot u.at v.at
    whole quarter n = some_of (dot u.at v.at) quarter (λ d. all_none (dot u.at u.at) (dot v.at v.at) (dot u.at v.at) (ahead turn.counterclockwise u.at v.at) u_some v_some d n (cosine turn.counterclockwise u.at v.at v.at))

    by : (a : Bool) → int_lt (dot u.at v.at) (pos 0) ≡ a → (b : Bool) → int_lt (pos 0) (ahead turn.counterclockwise u.at v.at) ≡ b
        → IsMiddle (quad_of turn.counterclockwise u.at (middle turn u v).at v.at p u_some m_some p_some)
    by true e b l =
        let d = lt_true (dot u.at v.at) (pos 0) e in
        let is = toward_round turn.counterclockwise u.at v.at d in
        round d
        (behind_start turn m x k u v it from to (subst (λ (y : Vector). (pos 7 *ℤ m) ≤ℤ ahead turn.counterclockwise u.at y) (sym is)
        (subst (λ (z : ℤ). (pos 7 *ℤ m) ≤ℤ z) (sym (way_from turn.counterclockwise u.at v.at)) (seven_more m (dot u.at u.at) (dot u.at v.at) it.ring.some (node_least m x u it.ring.some from) d))))
        (before_end turn m x k u v it from to (subst (λ (y : Vector). (pos 7 *ℤ m) ≤ℤ ahead turn.counterclockwise y v.at) (sym is)
        (subst (λ (z : ℤ). (pos 7 *ℤ m) ≤ℤ z) (sym (way_to turn.counterclockwise u.at v.at)) (seven_more m (dot v.at v.at) (dot u.at v.at) it.ring.some (node_least m x v it.ring.some to) d))))
    by false e true l =
        let d = lt_false (dot u.at v.at) (pos 0) e in
        let n = lt_true (pos 0) (ahead turn.counterclockwise u.at v.at) l in
        let both = less d n (toward_middle turn.counterclockwise u.at v.at) refl (toward_near turn.counterclockwise u.at v.at d n) in
        near n (behind_start turn m x k u v it from to both.0) (before_end turn m x k u v it from to both.1)
    by false e false l =
        let d = lt_false (dot u.at v.at) (pos 0) e in
        let n = lt_false (pos 0) (ahead turn.counterclockwise u.at v.at) l in
        let is = toward_back turn.counterclockwise u.at v.at d n in
        back d n (whole d)
        (off_start turn m x k u v it from to (subst (λ (y : Vector). dot u.at y ≤ℤ (pos 0 -ℤ pos 7 *ℤ m)) (sym is)
        (subst (λ (z : ℤ). z ≤ℤ (pos 0 -ℤ pos 7 *ℤ m)) (sym (back_from u.at.first u.at.second v.at.first v.at.second))
        (seven_less m (dot u.at u.at) (dot u.at v.at) it.ring.some (node_least m x u it.ring.some from) d))))
        (off_end turn m x k u v it from to (subst (λ (y : Vector). dot v.at y ≤ℤ (pos 0 -ℤ pos 7 *ℤ m)) (sym is)
        (subst (λ (z : ℤ). z ≤ℤ (pos 0 -ℤ pos 7 *ℤ m)) (sym (back_to u.at.first u.at.second v.at.first v.at.second))
        (seven_less m (dot v.at v.at) (dot u.at v.at) it.ring.some (node_least m x v it.ring.some to) d))))
