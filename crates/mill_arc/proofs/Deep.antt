-- A chord keeps off the centre, and so near to the points of the ring in the direction of its own.
use Rattle.std.specs.Prelude.{◌≡◌, Bool, ℤ, pos, ◌+ℤ◌, ◌-ℤ◌, ◌*ℤ◌, ◌<ℤ◌, ◌≤ℤ◌}
use Rattle.std.proofs.Common.{inl, inr, arith, subst, sym, ◌∙◌}
use Rattle.std.proofs.lemmas.Int.{ints}
use lib.IntN.{*ℤ_comm}
use Rattle.mill_base.proofs.Exit.{split_lt}
use Rattle.mill_base.proofs.Integers.{mul_nonneg-ℤ, sq-ℤ}
use Rattle.mill_base.specs.Motion.{IsMoment}
use Rattle.mill_arc.proofs.NodeCerts.{root_most}
use Rattle.mill_arc.proofs.Nodes.{node_least, node_most}
use Rattle.mill_arc.proofs.RingCerts.{chord_away, chord_half, chord_most, chord_square, deep_far, deep_near, deep_scaled, half_scaled, lesser_square, product_least, roots_apart, side_square, twice_dot}
use Rattle.mill_arc.specs.Rings.{on_chord}
use Rattle.mill_arc.specs.Sectors.{Sector}
use Rattle.mill_arc.specs.Vectors.{dot}
use Rattle.mill_arc.specs.inner.Nodes.{IsRing, IsShortSector}

-- ---- how far a chord is from the centre

-- so far, in hundredths of a nanometre
abbrev pub depth_of : ℤ → ℤ → ℤ
depth_of m k = (pos 100 *ℤ m -ℤ pos 118 *ℤ k) -ℤ pos 200

-- the square of the length of the chord's point, by those of the ends
abbrev chord_sum : ℤ → ℤ → ℤ → ℤ → ℤ → ℤ
chord_sum p q d j k = ((j *ℤ j) *ℤ p +ℤ (k *ℤ k) *ℤ q) +ℤ pos 2 *ℤ ((j *ℤ k) *ℤ d)

sum_back : (n k : ℤ) → (n -ℤ k) +ℤ k ≡ n
sum_back n k = omega (arith, ints)

bend_twice : (m k : ℤ) → pos 5000 *ℤ (pos 2 *ℤ ((m -ℤ pos 1) *ℤ (m -ℤ pos 1)) -ℤ pos 4 *ℤ (m *ℤ k)) ≡ pos 10000 *ℤ ((m -ℤ pos 1) *ℤ (m -ℤ pos 1) -ℤ pos 2 *ℤ (m *ℤ k))
bend_twice m k = by ((m -ℤ pos 1) *ℤ (m -ℤ pos 1)) (m *ℤ k)
  where
    by : (s g : ℤ) → pos 5000 *ℤ (pos 2 *ℤ s -ℤ pos 4 *ℤ g) ≡ pos 10000 *ℤ (s -ℤ pos 2 *ℤ g)
    by s g = omega (arith, ints)

-- for plain numbers: p, q, d are the products of the ends with themselves and each other
record AreEnds (m x k p q d : ℤ) : Type 0 where
  some : pos 1000 ≤ℤ m
  unit : pos 1000 ≤ℤ k
  p_least : ((m -ℤ pos 1) *ℤ (m -ℤ pos 1)) ≤ℤ p
  q_least : ((m -ℤ pos 1) *ℤ (m -ℤ pos 1)) ≤ℤ q
  p_most : p ≤ℤ ((x +ℤ pos 2) *ℤ (x +ℤ pos 2))
  q_most : q ≤ℤ ((x +ℤ pos 2) *ℤ (x +ℤ pos 2))
  quarter : (pos 0) ≤ℤ d
  bend : ((m -ℤ pos 1) *ℤ (m -ℤ pos 1) -ℤ pos 4 *ℤ (m *ℤ k)) ≤ℤ d
  mean : (pos 2 *ℤ d) ≤ℤ (p +ℤ q)

sum_deep : (m x k p q d j l : ℤ) → AreEnds m x k p q d → (pos 0) ≤ℤ j → (pos 0) ≤ℤ l → (pos 0) ≤ℤ depth_of m k
    → (((j +ℤ l) *ℤ (j +ℤ l)) *ℤ (depth_of m k *ℤ depth_of m k)) ≤ℤ (pos 10000 *ℤ chord_sum p q d j l)
sum_deep m x k p q d j l ends hj hl deep = elim (split_lt m (pos 4 *ℤ k)) [
  | inl near ↦ half_scaled (j +ℤ l) ((m -ℤ pos 1) *ℤ (m -ℤ pos 1)) (depth_of m k) (chord_sum p q d j l)
      (chord_half p q d j l ((m -ℤ pos 1) *ℤ (m -ℤ pos 1)) hj hl ends.p_least ends.q_least ends.quarter (sq-ℤ (m -ℤ pos 1)))
      (deep_near m k ends.unit (less m (pos 4 *ℤ k) near) deep)
  | inr far ↦ deep_scaled (j +ℤ l) ((m -ℤ pos 1) *ℤ (m -ℤ pos 1)) (pos 4 *ℤ (m *ℤ k)) (depth_of m k) (chord_sum p q d j l)
      (chord_away p q d j l ((m -ℤ pos 1) *ℤ (m -ℤ pos 1)) (pos 4 *ℤ (m *ℤ k)) hj hl ends.p_least ends.q_least ends.bend
      (mul_nonneg-ℤ (pos 4) (m *ℤ k) (omega (arith, ints)) (mul_nonneg-ℤ m k (wide m ends.some) (wide k ends.unit))))
      (subst (λ (t : ℤ). (depth_of m k *ℤ depth_of m k) ≤ℤ t) (sym (bend_twice m k)) (deep_far m k ends.unit far))
]
  where
    less : (a b : ℤ) → a <ℤ b → a ≤ℤ b
    less a b h = omega (arith, ints)

    wide : (k : ℤ) → pos 1000 ≤ℤ k → (pos 0) ≤ℤ k
    wide k h = omega (arith, ints)

-- a chord's point, over n, is that far from the centre, and not farther than the nodes can be
pub record IsDeep (x y n h : ℤ) : Type 0 where
  pub deep : (pos 0) ≤ℤ y → ((n *ℤ n) *ℤ (y *ℤ y)) ≤ℤ (pos 10000 *ℤ h)
  pub most : h ≤ℤ ((n *ℤ n) *ℤ ((x +ℤ pos 2) *ℤ (x +ℤ pos 2)))

ends_of : (t : Bool) (m x r unit : ℤ) (s : Sector) → IsRing m x r → pos 1000 ≤ℤ unit → IsShortSector t m x unit s → AreEnds m x unit (dot s.from s.from) (dot s.to s.to) (dot s.from s.to)
ends_of t m x r unit s ring some short = record {
  some = ring.some;
  unit = some;
  p_least = node_least m x (record { at = s.from; radius = short.a }) ring.some short.from;
  q_least = node_least m x (record { at = s.to; radius = short.b }) ring.some short.to;
  p_most = node_most m x (record { at = s.from; radius = short.a }) ring.some short.from;
  q_most = node_most m x (record { at = s.to; radius = short.b }) ring.some short.to;
  quarter = short.quarter;
  bend = product_least short.a short.b m (dot s.from s.to) (pos 4 *ℤ (m *ℤ unit)) (one m ring.some) short.from.least short.to.least short.bend;
  mean = twice_dot s.from.first s.from.second s.to.first s.to.second;
}
  where
    one : (m : ℤ) → pos 1000 ≤ℤ m → pos 1 ≤ℤ m
    one m h = omega (arith, ints)

sum_of : (s : Sector) (k n : ℤ) → dot (on_chord s k n) (on_chord s k n) ≡ chord_sum (dot s.from s.from) (dot s.to s.to) (dot s.from s.to) (n -ℤ k) k
sum_of s k n = chord_square s.from.first s.from.second s.to.first s.to.second (n -ℤ k) k

pub chord_deep : (t : Bool) (m x r unit : ℤ) (s : Sector) (k n : ℤ) → IsRing m x r → pos 1000 ≤ℤ unit → IsShortSector t m x unit s → IsMoment k n
    → IsDeep x (depth_of m unit) n (dot (on_chord s k n) (on_chord s k n))
chord_deep t m x r unit s k n ring some short moment =
    let ends = ends_of t m x r unit s ring some short in
    record {
      deep = λ deep. subst (λ (l : ℤ). ((l *ℤ l) *ℤ (depth_of m unit *ℤ depth_of m unit)) ≤ℤ (pos 10000 *ℤ dot (on_chord s k n) (on_chord s k n))) (sum_back n k)
          (subst (λ (h : ℤ). ((((n -ℤ k) +ℤ k) *ℤ ((n -ℤ k) +ℤ k)) *ℤ (depth_of m unit *ℤ depth_of m unit)) ≤ℤ (pos 10000 *ℤ h)) (sym (sum_of s k n))
          (sum_deep m x unit (dot s.from s.from) (dot s.to s.to) (dot s.from s.to) (n -ℤ k) k ends (rest k n moment.before) moment.after deep));
      most = subst (λ (l : ℤ). dot (on_chord s k n) (on_chord s k n) ≤ℤ ((l *ℤ l) *ℤ ((x +ℤ pos 2) *ℤ (x +ℤ pos 2)))) (sum_back n k)
          (subst (λ (h : ℤ). h ≤ℤ ((((n -ℤ k) +ℤ k) *ℤ ((n -ℤ k) +ℤ k)) *ℤ ((x +ℤ pos 2) *ℤ (x +ℤ pos 2)))) (sym (sum_of s k n))
          (chord_most (dot s.from s.from) (dot s.to s.to) (dot s.from s.to) (n -ℤ k) k ((x +ℤ pos 2) *ℤ (x +ℤ pos 2)) (rest k n moment.before) moment.after ends.p_most ends.q_most ends.mean));
    }
  where
    rest : (k n : ℤ) → k ≤ℤ n → (pos 0) ≤ℤ (n -ℤ k)
    rest k n h = omega (arith, ints)

-- ---- how far two lengths in one direction can be from each other

-- a and b are squares of two lengths from q to p, and c is their product
pub record AreLengths (p q a b c : ℤ) : Type 0 where
  pub some : (pos 0) ≤ℤ q
  pub order : q ≤ℤ p
  pub p_some : (pos 0) <ℤ p
  pub a_some : (pos 0) <ℤ a
  pub b_some : (pos 0) <ℤ b
  pub a_least : (q *ℤ q) ≤ℤ a
  pub a_most : a ≤ℤ (p *ℤ p)
  pub b_least : (q *ℤ q) ≤ℤ b
  pub b_most : b ≤ℤ (p *ℤ p)
  pub c_some : (pos 0) ≤ℤ c
  pub product : c *ℤ c ≡ a *ℤ b

apart_by : (p q a b c : ℤ) → AreLengths p q a b c → b ≤ℤ a → ((a +ℤ b) -ℤ pos 2 *ℤ c) ≤ℤ ((p -ℤ q) *ℤ (p -ℤ q))
apart_by p q a b c it order = roots_apart a b c p q it.a_some it.p_some it.order
    (root_most c a (up_to a it.a_some) (lesser_square a b c (up_to a it.a_some) order it.product))
    (root_most (q *ℤ a) (p *ℤ c) (mul_nonneg-ℤ p c (up_to p it.p_some) it.c_some) (side_square a b c p q (up_to a it.a_some) (up_to b it.b_some) it.b_least it.a_most it.product))
    it.a_most it.product
  where
    up_to : (n : ℤ) → (pos 0) <ℤ n → (pos 0) ≤ℤ n
    up_to n h = omega (arith, ints)

swap : (p q a b c : ℤ) → AreLengths p q a b c → AreLengths p q b a c
swap p q a b c it = record {
  some = it.some;
  order = it.order;
  p_some = it.p_some;
  a_some = it.b_some;
  b_some = it.a_some;
  a_least = it.b_least;
  a_most = it.b_most;
  b_least = it.a_least;
  b_most = it.a_most;
  c_some = it.c_some;
  product = it.product ∙ *ℤ_comm a b;
}

pub lengths_apart : (p q a b c : ℤ) → AreLengths p q a b c → ((a +ℤ b) -ℤ pos 2 *ℤ c) ≤ℤ ((p -ℤ q) *ℤ (p -ℤ q))
lengths_apart p q a b c it = elim (split_lt a b) [
  | inl less ↦ turned a b c _ (apart_by p q b a c (swap p q a b c it) (up_to a b less))
  | inr more ↦ apart_by p q a b c it more
]
  where
    up_to : (a b : ℤ) → a <ℤ b → a ≤ℤ b
    up_to a b h = omega (arith, ints)

    turned : (a b c d : ℤ) → ((b +ℤ a) -ℤ pos 2 *ℤ c) ≤ℤ d → ((a +ℤ b) -ℤ pos 2 *ℤ c) ≤ℤ d
    turned a b c d h = omega (arith, ints)
