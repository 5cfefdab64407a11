-- How far the nodes of an arc are from its centre.
use Rattle.std.specs.Prelude.{◌≡◌, ℕ, zero, suc, ◌^◌, ◌<◌, ◌≤◌, ℤ, pos, nat_abs, ◌+ℤ◌, ◌-ℤ◌, ◌*ℤ◌, ◌<ℤ◌, ◌≤ℤ◌}
use Rattle.std.proofs.Common.{arith, subst}
use Rattle.std.proofs.lemmas.Int.{ints}
use Rattle.mill_base.specs.Numbers.{floor_root_of, square}
use Rattle.mill_shape.specs.inner.Roots.{IsFloorRoot}
use Rattle.mill_shape.proofs.RootLemmas.{floor_root_is}
use lib.IntN.{*ℤ_comm}
use Rattle.mill_base.proofs.Integers.{mul_nonneg-ℤ, sq-ℤ}
use Rattle.mill_arc.proofs.Nearest.{IsHalf, nearest_half}
use Rattle.mill_arc.proofs.NodeCerts.{error_square, half_square, mean_square, middle_least, middle_most, minus_square, root_less, root_most, seven_errors, square_order}
use Rattle.mill_arc.specs.Chords.{lengthened}
use Rattle.mill_arc.specs.Places.{nearest}
use Rattle.mill_arc.specs.Vectors.{dot, vector}
use Rattle.mill_arc.specs.declared.chords.Node.{Node}
use Rattle.mill_arc.specs.declared.vectors.Vector.{Vector}
use Rattle.mill_arc.specs.inner.Nodes.{IsNode, IsRing}

-- the root of the square of a length
pub record IsRootOf (s q : ℤ) : Type 0 where
  pub some : (pos 0) ≤ℤ q
  pub below : (q *ℤ q) ≤ℤ s
  pub above : s <ℤ ((q +ℤ pos 1) *ℤ (q +ℤ pos 1))

pub root_of_is : (s : ℤ) → (pos 0) ≤ℤ s → s <ℤ pos (2 ^ 64) → IsRootOf s (pos (floor_root_of (nat_abs s)))
root_of_is s some small = by (floor_root_of (nat_abs s)) (floor_root_is (nat_abs s) (omega (arith, ints)))
  where
    by : (r : ℕ) → IsFloorRoot (nat_abs s) r → IsRootOf s (pos r)
    by r h = let below = h.below in let above = h.above in record { some = omega (arith, ints); below = omega (arith, ints); above = omega (arith, ints) }

-- a vector's length, rounded down, is at least the magnitude of each coordinate
pub record HasRoot (w : Vector) (q : ℕ) : Type 0 where
  pub some : 0 < q
  pub first : nat_abs w.first ≤ q
  pub second : nat_abs w.second ≤ q

pub root_holds : (w : Vector) → pos 1 ≤ℤ dot w w → dot w w <ℤ pos (2 ^ 64) → HasRoot w (floor_root_of (nat_abs (dot w w)))
root_holds w some small = by (floor_root_of (nat_abs (dot w w))) (root_of_is (dot w w) (omega (arith, ints)) small)
  where
    counted : (q : ℕ) (s : ℤ) → pos 1 ≤ℤ s → s <ℤ ((pos q +ℤ pos 1) *ℤ (pos q +ℤ pos 1)) → 0 < q
    counted zero s h k = omega (arith, ints)
    counted (suc q) s h k = omega (arith, ints)

    most : (q : ℕ) (a : ℤ) → (a *ℤ a) <ℤ ((pos q +ℤ pos 1) *ℤ (pos q +ℤ pos 1)) → a ≤ℤ pos q
    most q a h = let l = root_less a (pos q +ℤ pos 1) (omega (arith, ints)) h in omega (arith, ints)

    both : (q : ℕ) (a : ℤ) → a ≤ℤ pos q → (pos 0 -ℤ a) ≤ℤ pos q → nat_abs a ≤ q
    both q a h k = omega (arith, ints)

    within : (q : ℕ) (a : ℤ) → (a *ℤ a) <ℤ ((pos q +ℤ pos 1) *ℤ (pos q +ℤ pos 1)) → nat_abs a ≤ q
    within q a h = both q a (most q a h) (most q (pos 0 -ℤ a) (subst (λ (t : ℤ). t <ℤ ((pos q +ℤ pos 1) *ℤ (pos q +ℤ pos 1))) (minus_square a) h))

    left : (a b c : ℤ) → (pos 0) ≤ℤ b → (a +ℤ b) <ℤ c → a <ℤ c
    left a b c h k = omega (arith, ints)

    right : (a b c : ℤ) → (pos 0) ≤ℤ a → (a +ℤ b) <ℤ c → b <ℤ c
    right a b c h k = omega (arith, ints)

    by : (q : ℕ) → IsRootOf (dot w w) (pos q) → HasRoot w q
    by q root = record {
      some = counted q (dot w w) some root.above;
      first = within q w.first (left (w.first *ℤ w.first) (w.second *ℤ w.second) _ (sq-ℤ w.second) root.above);
      second = within q w.second (right (w.first *ℤ w.first) (w.second *ℤ w.second) _ (sq-ℤ w.first) root.above);
    }

-- ---- a vector made as long as a radius, for plain numbers

up_to : (a b : ℤ) → a <ℤ b → a ≤ℤ b
up_to a b h = omega (arith, ints)

-- what rounding takes off its length, or adds, as the middle's coordinates are times q
pub record IsOff (q r w1 w2 n1 n2 : ℤ) : Type 0 where
  pub first : (pos 4 *ℤ ((q *ℤ n1 -ℤ r *ℤ w1) *ℤ (q *ℤ n1 -ℤ r *ℤ w1))) ≤ℤ (q *ℤ q)
  pub second : (pos 4 *ℤ ((q *ℤ n2 -ℤ r *ℤ w2) *ℤ (q *ℤ n2 -ℤ r *ℤ w2))) ≤ℤ (q *ℤ q)

room : (q : ℤ) → pos 3 ≤ℤ q → (pos 0) ≤ℤ (pos 5 *ℤ (q *ℤ (q +ℤ pos 1)))
room q h = by (q *ℤ (q +ℤ pos 1)) (mul_nonneg-ℤ q (q +ℤ pos 1) (omega (arith, ints)) (omega (arith, ints)))
  where
    by : (p : ℤ) → (pos 0) ≤ℤ p → (pos 0) ≤ℤ (pos 5 *ℤ p)
    by p h = omega (arith, ints)

error_most : (q f : ℤ) → pos 3 ≤ℤ q → (pos 2 *ℤ (f *ℤ f)) ≤ℤ (((q +ℤ pos 1) *ℤ (q +ℤ pos 1)) *ℤ (q *ℤ q)) → (pos 7 *ℤ f) ≤ℤ (pos 5 *ℤ (q *ℤ (q +ℤ pos 1)))
error_most q f h square = root_most (pos 7 *ℤ f) (pos 5 *ℤ (q *ℤ (q +ℤ pos 1))) (room q h) (seven_errors f q square)

flipped : (f c : ℤ) → (pos 2 *ℤ (f *ℤ f)) ≤ℤ c → (pos 2 *ℤ ((pos 0 -ℤ f) *ℤ (pos 0 -ℤ f))) ≤ℤ c
flipped f c h = subst (λ (t : ℤ). (pos 2 *ℤ t) ≤ℤ c) (same f) h
  where
    same : (f : ℤ) → f *ℤ f ≡ (pos 0 -ℤ f) *ℤ (pos 0 -ℤ f)
    same f = minus_square f

lengthened_least : (q r w1 w2 n1 n2 : ℤ) → pos 3 ≤ℤ q → pos 1 ≤ℤ r → IsRootOf (w1 *ℤ w1 +ℤ w2 *ℤ w2) q → IsOff q r w1 w2 n1 n2
    → square (r -ℤ pos 1) ≤ℤ (n1 *ℤ n1 +ℤ n2 *ℤ n2)
lengthened_least q r w1 w2 n1 n2 hq hr root off =
    middle_least q r w1 w2 n1 n2 hq hr root.below
    (error_most q (pos 0 -ℤ (w1 *ℤ (q *ℤ n1 -ℤ r *ℤ w1) +ℤ w2 *ℤ (q *ℤ n2 -ℤ r *ℤ w2))) hq
    (flipped (w1 *ℤ (q *ℤ n1 -ℤ r *ℤ w1) +ℤ w2 *ℤ (q *ℤ n2 -ℤ r *ℤ w2)) _
    (error_square w1 w2 (q *ℤ n1 -ℤ r *ℤ w1) (q *ℤ n2 -ℤ r *ℤ w2) ((q +ℤ pos 1) *ℤ (q +ℤ pos 1)) q (up_to _ _ root.above) off.first off.second)))

lengthened_most : (q r w1 w2 n1 n2 : ℤ) → pos 3 ≤ℤ q → pos 1 ≤ℤ r → (pos 100 *ℤ r) ≤ℤ (pos 107 *ℤ q) → IsRootOf (w1 *ℤ w1 +ℤ w2 *ℤ w2) q → IsOff q r w1 w2 n1 n2
    → (n1 *ℤ n1 +ℤ n2 *ℤ n2) ≤ℤ square (r +ℤ pos 2)
lengthened_most q r w1 w2 n1 n2 hq hr hm root off =
    middle_most q r w1 w2 n1 n2 hq hr hm root.above
    (error_most q (w1 *ℤ (q *ℤ n1 -ℤ r *ℤ w1) +ℤ w2 *ℤ (q *ℤ n2 -ℤ r *ℤ w2)) hq
    (error_square w1 w2 (q *ℤ n1 -ℤ r *ℤ w1) (q *ℤ n2 -ℤ r *ℤ w2) ((q +ℤ pos 1) *ℤ (q +ℤ pos 1)) q (up_to _ _ root.above) off.first off.second))
    off.first off.second

-- ---- the node that a vector is made

-- a rounded coordinate is off by at most half a q
off_of : (q : ℕ) (r w : ℤ) → 0 < q → (pos 4 *ℤ ((pos q *ℤ nearest (w *ℤ r) q -ℤ r *ℤ w) *ℤ (pos q *ℤ nearest (w *ℤ r) q -ℤ r *ℤ w))) ≤ℤ (pos q *ℤ pos q)
off_of q r w some = subst (λ (t : ℤ). (pos 4 *ℤ ((pos q *ℤ nearest (w *ℤ r) q -ℤ t) *ℤ (pos q *ℤ nearest (w *ℤ r) q -ℤ t))) ≤ℤ (pos q *ℤ pos q)) (*ℤ_comm w r)
    (by (nearest_half (w *ℤ r) q some))
  where
    by : IsHalf q (w *ℤ r) (nearest (w *ℤ r) q) → (pos 4 *ℤ ((pos q *ℤ nearest (w *ℤ r) q -ℤ w *ℤ r) *ℤ (pos q *ℤ nearest (w *ℤ r) q -ℤ w *ℤ r))) ≤ℤ (pos q *ℤ pos q)
    by h = half_square (pos q) (pos q *ℤ nearest (w *ℤ r) q -ℤ w *ℤ r) h.most h.least

-- the mean radius is at least 1, and hardly greater than the root
record IsEven (q r : ℤ) : Type 0 where
  root_some : pos 3 ≤ℤ q
  some : pos 1 ≤ℤ r
  most : (pos 100 *ℤ r) ≤ℤ (pos 107 *ℤ q)

even_of : (m x r q s : ℤ) → IsRing m x r → (pos 2 *ℤ ((m -ℤ pos 1) *ℤ (m -ℤ pos 1))) ≤ℤ s → IsRootOf s q → IsEven q r
even_of m x r q s ring long root =
    let least = mean_square m q s ring.some long root.above root.some in
    let some = ring.some in
    let low = ring.least in
    let twice = ring.twice in
    let mean = ring.mean in
    record { root_some = omega (arith, ints); some = omega (arith, ints); most = omega (arith, ints) }

counted : (q : ℕ) → pos 3 ≤ℤ pos q → 0 < q
counted q h = omega (arith, ints)

-- how a vector was made so long
pub record IsLengthened (w : Vector) (r : ℤ) (n : Vector) : Type 0 where
  pub q : ℤ
  pub some : pos 3 ≤ℤ q
  pub root : IsRootOf (dot w w) q
  pub off : IsOff q r w.first w.second n.first n.second

pub lengthened_is : (m x r : ℤ) (w : Vector) → IsRing m x r → (pos 2 *ℤ square (m -ℤ pos 1)) ≤ℤ dot w w → dot w w <ℤ pos (2 ^ 64) → (pos 0) ≤ℤ dot w w → IsLengthened w r (lengthened r w)
unfolding lengthened
lengthened_is m x r w ring long small some = by (floor_root_of (nat_abs (dot w w))) (root_of_is (dot w w) some small)
  where
    by : (q : ℕ) → IsRootOf (dot w w) (pos q) → IsLengthened w r (vector (nearest (w.first *ℤ r) q) (nearest (w.second *ℤ r) q))
    by q root =
        let even = even_of m x r (pos q) (dot w w) ring long root in
        record {
          q = pos q;
          some = even.root_some;
          root = root;
          off = record { first = off_of q r w.first (counted q even.root_some); second = off_of q r w.second (counted q even.root_some) };
        }

pub lengthened_node : (m x r : ℤ) (w : Vector) → IsRing m x r → (pos 2 *ℤ square (m -ℤ pos 1)) ≤ℤ dot w w → dot w w <ℤ pos (2 ^ 64) → (pos 0) ≤ℤ dot w w
    → IsNode m x (record { at = lengthened r w; radius = r })
unfolding lengthened
lengthened_node m x r w ring long small some = by (floor_root_of (nat_abs (dot w w))) (root_of_is (dot w w) some small)
  where
    by : (q : ℕ) → IsRootOf (dot w w) (pos q) → IsNode m x (record { at = vector (nearest (w.first *ℤ r) q) (nearest (w.second *ℤ r) q); radius = r })
    by q root =
        let even = even_of m x r (pos q) (dot w w) ring long root in
        let one = off_of q r w.first (counted q even.root_some) in
        let two = off_of q r w.second (counted q even.root_some) in
        let off : IsOff (pos q) r w.first w.second (nearest (w.first *ℤ r) q) (nearest (w.second *ℤ r) q) = record { first = one; second = two } in
        record {
          least = ring.least;
          most = ring.most;
          inner = lengthened_least (pos q) r w.first w.second (nearest (w.first *ℤ r) q) (nearest (w.second *ℤ r) q) even.root_some even.some root off;
          outer = lengthened_most (pos q) r w.first w.second (nearest (w.first *ℤ r) q) (nearest (w.second *ℤ r) q) even.root_some even.some even.most root off;
        }

-- ---- how long a node is

pub node_least : (m x : ℤ) (n : Node) → pos 1000 ≤ℤ m → IsNode m x n → square (m -ℤ pos 1) ≤ℤ dot n.at n.at
node_least m x n some node = through _ _ _ (square_order (m -ℤ pos 1) (n.radius -ℤ pos 1) (omega (arith, ints)) (let l = node.least in omega (arith, ints))) node.inner
  where
    through : (a b c : ℤ) → a ≤ℤ b → b ≤ℤ c → a ≤ℤ c
    through a b c h k = omega (arith, ints)

pub node_most : (m x : ℤ) (n : Node) → pos 1000 ≤ℤ m → IsNode m x n → dot n.at n.at ≤ℤ square (x +ℤ pos 2)
node_most m x n some node = through _ _ _ node.outer (square_order (n.radius +ℤ pos 2) (x +ℤ pos 2) (let l = node.least in omega (arith, ints)) (let h = node.most in omega (arith, ints)))
  where
    through : (a b c : ℤ) → a ≤ℤ b → b ≤ℤ c → a ≤ℤ c
    through a b c h k = omega (arith, ints)
