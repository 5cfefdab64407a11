-- The vector from the centre to the middle of a sector is long enough, and the middle is a node.
use Rattle.std.specs.Prelude.{◌≡◌, ◌^◌, ◌≤◌, Bool, true, false, if◌then◌else◌, ℤ, pos, nat_abs, ◌+ℤ◌, ◌-ℤ◌, ◌*ℤ◌, ◌<ℤ◌, ◌≤ℤ◌, int_lt}
use Rattle.std.proofs.Common.{arith, refl, subst}
use Rattle.std.proofs.lemmas.Int.{ints}
use Rattle.mill_base.proofs.Integers.{sq-ℤ}
use Rattle.mill_base.specs.Numbers.{square}
use Rattle.mill_arc.proofs.NodeCerts.{back_least, back_most, left_least, left_most, minus_square, plus_least, plus_most, right_least, right_most, root_less, square_order}
use Rattle.mill_arc.proofs.Nodes.{lengthened_node, node_least, node_most}
use Rattle.mill_arc.proofs.Decided.{lt_false, lt_true}
use Rattle.mill_arc.specs.Chords.{middle, toward_middle}
use Rattle.mill_arc.specs.Vectors.{IsNear, ahead, dot, opposite, plus, turned_way}
use Rattle.mill_arc.specs.declared.chords.Node.{Node}
use Rattle.mill_arc.specs.declared.chords.Turn.{Turn}
use Rattle.mill_arc.specs.declared.vectors.Vector.{Vector}
use Rattle.mill_arc.specs.inner.Nodes.{IsNode, IsPart, IsPlain, IsRing}

-- its square is at least the sum of those of both nodes, and at most twice that
pub record IsWay (u v w : Vector) : Type 0 where
  pub least : (dot u u +ℤ dot v v) ≤ℤ dot w w
  pub most : dot w w ≤ℤ (pos 2 *ℤ (dot u u +ℤ dot v v))

turned_is : (t : Bool) (u v : Vector) → dot u v ≤ℤ (pos 0) → IsWay u v (turned_way t u v)
turned_is true u v h = record { least = left_least u.first u.second v.first v.second h; most = left_most u.first u.second v.first v.second }
turned_is false u v h = record { least = right_least u.first u.second v.first v.second h; most = right_most u.first u.second v.first v.second }

plus_is : (u v : Vector) → (pos 0) ≤ℤ dot u v → IsWay u v (plus u v)
plus_is u v h = record { least = plus_least u.first u.second v.first v.second h; most = plus_most u.first u.second v.first v.second }

back_is : (u v : Vector) → (pos 0) ≤ℤ dot u v → IsWay u v (opposite (plus u v))
back_is u v h = record { least = back_least u.first u.second v.first v.second h; most = back_most u.first u.second v.first v.second }

pub way_is : (t : Bool) (u v : Vector) → IsWay u v (toward_middle t u v)
unfolding toward_middle
way_is t u v = by (int_lt (dot u v) (pos 0)) (int_lt (pos 0) (ahead t u v)) refl
  where
    up_to : (a b : ℤ) → a <ℤ b → a ≤ℤ b
    up_to a b h = omega (arith, ints)

    by : (a b : Bool) → int_lt (dot u v) (pos 0) ≡ a → IsWay u v (if a then turned_way t u v else (if b then plus u v else opposite (plus u v)))
    by true b e = turned_is t u v (up_to _ _ (lt_true (dot u v) (pos 0) e))
    by false true e = plus_is u v (lt_false (dot u v) (pos 0) e)
    by false false e = back_is u v (lt_false (dot u v) (pos 0) e)

-- a vector whose square is under 2^64 has small coordinates
pub near_of : (w : Vector) → dot w w <ℤ pos (2 ^ 64) → IsNear w
near_of w small = record {
  first = record { within = within w.first (left (w.first *ℤ w.first) (w.second *ℤ w.second) (sq-ℤ w.second) small) };
  second = record { within = within w.second (right (w.first *ℤ w.first) (w.second *ℤ w.second) (sq-ℤ w.first) small) };
}
  where
    both : (a : ℤ) → a <ℤ pos (2 ^ 32) → (pos 0 -ℤ a) <ℤ pos (2 ^ 32) → nat_abs a ≤ 2 ^ 32
    both a h k = omega (arith, ints)

    within : (a : ℤ) → (a *ℤ a) <ℤ (pos (2 ^ 32) *ℤ pos (2 ^ 32)) → nat_abs a ≤ 2 ^ 32
    within a h = both a (root_less a (pos (2 ^ 32)) (omega (arith, ints)) h)
        (root_less (pos 0 -ℤ a) (pos (2 ^ 32)) (omega (arith, ints)) (subst (λ (t : ℤ). t <ℤ (pos (2 ^ 32) *ℤ pos (2 ^ 32))) (minus_square a) h))

    left : (a b : ℤ) → (pos 0) ≤ℤ b → (a +ℤ b) <ℤ pos (2 ^ 64) → a <ℤ (pos (2 ^ 32) *ℤ pos (2 ^ 32))
    left a b h k = omega (arith, ints)

    right : (a b : ℤ) → (pos 0) ≤ℤ a → (a +ℤ b) <ℤ pos (2 ^ 64) → b <ℤ (pos (2 ^ 32) *ℤ pos (2 ^ 32))
    right a b h k = omega (arith, ints)

-- the square of the greatest length of a node
outermost : (x : ℤ) → pos 1000 ≤ℤ x → x ≤ℤ pos 1856000000 → square (x +ℤ pos 2) ≤ℤ pos 3444736007424000004
outermost x some bound = square_order (x +ℤ pos 2) (pos 1856000002) (omega (arith, ints)) (omega (arith, ints))

ring_some : (m x r : ℤ) → IsRing m x r → pos 1000 ≤ℤ x
ring_some m x r ring = let a = ring.some in let b = ring.least in let c = ring.most in omega (arith, ints)

pub node_short : (m x r : ℤ) (n : Node) → IsRing m x r → IsNode m x n → dot n.at n.at ≤ℤ pos 3444736007424000004
node_short m x r n ring node = through _ _ _ (node_most m x n ring.some node) (outermost x (ring_some m x r ring) ring.bound)
  where
    through : (a b c : ℤ) → a ≤ℤ b → b ≤ℤ c → a ≤ℤ c
    through a b c h k = omega (arith, ints)

pub node_plain : (m x r : ℤ) (n : Node) → IsRing m x r → IsNode m x n → IsPlain n
node_plain m x r n ring node = record { near = near_of n.at (small (dot n.at n.at) (node_short m x r n ring node)); radius = record { within = within } }
  where
    small : (a : ℤ) → a ≤ℤ pos 3444736007424000004 → a <ℤ pos (2 ^ 64)
    small a h = omega (arith, ints)

    within : nat_abs n.radius ≤ 2 ^ 32
    within = let a = ring.some in let b = node.least in let c = node.most in let d = ring.bound in omega (arith, ints)

-- how long the way to the middle is
pub record IsLong (m : ℤ) (w : Vector) : Type 0 where
  pub long : (pos 2 *ℤ square (m -ℤ pos 1)) ≤ℤ dot w w
  pub some : pos 1 ≤ℤ dot w w
  pub short : dot w w <ℤ pos (2 ^ 64)

pub way_long : (m x r : ℤ) (t : Bool) (u v : Node) → IsRing m x r → IsNode m x u → IsNode m x v → IsLong m (toward_middle t u.at v.at)
way_long m x r t u v ring from to = by (way_is t u.at v.at)
  where
    most : (p q w : ℤ) → w ≤ℤ (pos 2 *ℤ (p +ℤ q)) → p ≤ℤ pos 3444736007424000004 → q ≤ℤ pos 3444736007424000004 → w <ℤ pos (2 ^ 64)
    most p q w h k l = omega (arith, ints)

    least : (s p q w : ℤ) → (p +ℤ q) ≤ℤ w → s ≤ℤ p → s ≤ℤ q → (pos 2 *ℤ s) ≤ℤ w
    least s p q w h k l = omega (arith, ints)

    positive : (s w : ℤ) → pos 998001 ≤ℤ s → (pos 2 *ℤ s) ≤ℤ w → pos 1 ≤ℤ w
    positive s w h k = omega (arith, ints)

    by : IsWay u.at v.at (toward_middle t u.at v.at) → IsLong m (toward_middle t u.at v.at)
    by way =
        let long = least (square (m -ℤ pos 1)) (dot u.at u.at) (dot v.at v.at) _ way.least (node_least m x u ring.some from) (node_least m x v ring.some to) in
        record {
          long = long;
          some = positive (square (m -ℤ pos 1)) _ (square_order (pos 999) (m -ℤ pos 1) (omega (arith, ints)) (let a = ring.some in omega (arith, ints))) long;
          short = most (dot u.at u.at) (dot v.at v.at) _ way.most (node_short m x r u ring from) (node_short m x r v ring to);
        }

pub middle_node : (m x : ℤ) (turn : Turn) (u v : Node) → IsRing m x turn.radius → IsNode m x u → IsNode m x v → IsNode m x (middle turn u v)
middle_node m x turn u v ring from to =
    let way = way_long m x turn.radius turn.counterclockwise u v ring from to in
    lengthened_node m x turn.radius (toward_middle turn.counterclockwise u.at v.at) ring way.long way.short (up_to _ way.some)
  where
    up_to : (a : ℤ) → pos 1 ≤ℤ a → (pos 0) ≤ℤ a
    up_to a h = omega (arith, ints)

pub first_part : (turn : Turn) (u v : Node) → IsPart turn u v → IsPart turn u (middle turn u v)
first_part turn u v part = record { m = part.m; x = part.x; ring = part.ring; from = part.from; to = middle_node part.m part.x turn u v part.ring part.from part.to }

pub second_part : (turn : Turn) (u v : Node) → IsPart turn u v → IsPart turn (middle turn u v) v
second_part turn u v part = record { m = part.m; x = part.x; ring = part.ring; from = middle_node part.m part.x turn u v part.ring part.from part.to; to = part.to }
