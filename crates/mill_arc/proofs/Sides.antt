-- On which side of a vector the middle of a sector lies: on that of the vector from which it was made, where that is clear enough.
use Rattle.std.specs.Prelude.{◌≡◌, Bool, true, false, ℤ, pos, ◌+ℤ◌, ◌-ℤ◌, ◌*ℤ◌, ◌<ℤ◌, ◌≤ℤ◌}
use Rattle.std.proofs.Common.{arith, subst, sym}
use Rattle.std.proofs.lemmas.Int.{ints}
use Rattle.mill_base.proofs.Integers.{mul_nonneg-ℤ}
use Rattle.mill_arc.proofs.NodeCerts.{error_square, minus_square, root_most}
use Rattle.mill_arc.proofs.Nodes.{IsLengthened}
use Rattle.mill_arc.proofs.TurnCerts.{across_end_left, across_end_right, across_from_left, across_from_right, across_length_left, across_length_right, across_to_left, across_to_right, minus_dot, minus_length, seven_parts, side_most, side_sum}
use Rattle.mill_arc.specs.Vectors.{ahead, dot, vector}
use Rattle.mill_arc.specs.declared.vectors.Vector.{Vector}

-- what the two lemmas below ask: how long the vectors are, and the radius
pub record IsClear (m r : ℤ) (a w n : Vector) : Type 0 where
  pub some : pos 1000 ≤ℤ m
  pub radius : m ≤ℤ r
  pub short : dot a a ≤ℤ ((pos 2 *ℤ (m +ℤ pos 1)) *ℤ (pos 2 *ℤ (m +ℤ pos 1)))
  pub way : dot w w ≤ℤ ((pos 4 *ℤ (m +ℤ pos 1)) *ℤ (pos 4 *ℤ (m +ℤ pos 1)))
  pub made : IsLengthened w r n

through : (a b c : ℤ) → a ≤ℤ b → b ≤ℤ c → a ≤ℤ c
through a b c h k = omega (arith, ints)

module _ (m r : ℤ) (a w n : Vector) (it : IsClear m r a w n) where
  root_short : it.made.q ≤ℤ (pos 4 *ℤ (m +ℤ pos 1))
  root_short = root_most it.made.q (pos 4 *ℤ (m +ℤ pos 1)) (some m it.some) (through (it.made.q *ℤ it.made.q) (dot w w) _ it.made.root.below it.way)
    where
      some : (m : ℤ) → pos 1000 ≤ℤ m → (pos 0) ≤ℤ (pos 4 *ℤ (m +ℤ pos 1))
      some m h = omega (arith, ints)

  off_most : (pos 7 *ℤ (pos 0 -ℤ (a.first *ℤ (it.made.q *ℤ n.first -ℤ r *ℤ w.first) +ℤ a.second *ℤ (it.made.q *ℤ n.second -ℤ r *ℤ w.second)))) ≤ℤ (pos 5 *ℤ ((pos 2 *ℤ (m +ℤ pos 1)) *ℤ it.made.q))
  off_most = root_most _ (pos 5 *ℤ ((pos 2 *ℤ (m +ℤ pos 1)) *ℤ it.made.q)) (room m it.made.q it.some it.made.some)
      (seven_parts (pos 0 -ℤ (a.first *ℤ (it.made.q *ℤ n.first -ℤ r *ℤ w.first) +ℤ a.second *ℤ (it.made.q *ℤ n.second -ℤ r *ℤ w.second))) (pos 2 *ℤ (m +ℤ pos 1)) it.made.q
      (flipped _ _ (error_square a.first a.second (it.made.q *ℤ n.first -ℤ r *ℤ w.first) (it.made.q *ℤ n.second -ℤ r *ℤ w.second) ((pos 2 *ℤ (m +ℤ pos 1)) *ℤ (pos 2 *ℤ (m +ℤ pos 1))) it.made.q it.short it.made.off.first it.made.off.second)))
    where
      room : (m q : ℤ) → pos 1000 ≤ℤ m → pos 3 ≤ℤ q → (pos 0) ≤ℤ (pos 5 *ℤ ((pos 2 *ℤ (m +ℤ pos 1)) *ℤ q))
      room m q h k = mul_nonneg-ℤ (pos 5) _ (omega (arith, ints)) (mul_nonneg-ℤ (pos 2 *ℤ (m +ℤ pos 1)) q (omega (arith, ints)) (omega (arith, ints)))

      flipped : (f c : ℤ) → (pos 2 *ℤ (f *ℤ f)) ≤ℤ c → (pos 2 *ℤ ((pos 0 -ℤ f) *ℤ (pos 0 -ℤ f))) ≤ℤ c
      flipped f c h = subst (λ (t : ℤ). (pos 2 *ℤ t) ≤ℤ c) (minus_square f) h

  pub side_high : (pos 7 *ℤ m) ≤ℤ dot a w → (pos 0) <ℤ dot a n
  side_high h = side_most it.made.q r (dot a w) (dot a n) m (a.first *ℤ (it.made.q *ℤ n.first -ℤ r *ℤ w.first) +ℤ a.second *ℤ (it.made.q *ℤ n.second -ℤ r *ℤ w.second))
      it.some (counted it.made.q it.made.some) root_short it.radius h (side_sum it.made.q r w.first w.second n.first n.second a.first a.second) off_most
    where
      counted : (q : ℤ) → pos 3 ≤ℤ q → (pos 0) <ℤ q
      counted q h = omega (arith, ints)

pub side_low : (m r : ℤ) (a w n : Vector) → IsClear m r a w n → dot a w ≤ℤ (pos 0 -ℤ pos 7 *ℤ m) → dot a n <ℤ (pos 0)
side_low m r a w n it h =
    back (dot a n) (subst (λ (t : ℤ). (pos 0) <ℤ t) (minus_dot a.first a.second n.first n.second)
    (side_high m r (vector (pos 0 -ℤ a.first) (pos 0 -ℤ a.second)) w n
    (record { some = it.some; radius = it.radius; short = subst (λ (t : ℤ). t ≤ℤ ((pos 2 *ℤ (m +ℤ pos 1)) *ℤ (pos 2 *ℤ (m +ℤ pos 1)))) (sym (minus_length a.first a.second)) it.short; way = it.way; made = it.made })
    (subst (λ (t : ℤ). (pos 7 *ℤ m) ≤ℤ t) (sym (minus_dot a.first a.second w.first w.second)) (turned (dot a w) m h))))
  where
    back : (z : ℤ) → (pos 0) <ℤ (pos 0 -ℤ z) → z <ℤ (pos 0)
    back z h = omega (arith, ints)

    turned : (z m : ℤ) → z ≤ℤ (pos 0 -ℤ pos 7 *ℤ m) → (pos 7 *ℤ m) ≤ℤ (pos 0 -ℤ z)
    turned z m h = omega (arith, ints)

-- ---- how far a vector lies ahead, as a dot product

abbrev pub across_from : Bool → Vector → Vector
across_from true u = vector (pos 0 -ℤ u.second) u.first
across_from false u = vector u.second (pos 0 -ℤ u.first)

abbrev pub across_to : Bool → Vector → Vector
across_to true v = vector v.second (pos 0 -ℤ v.first)
across_to false v = vector (pos 0 -ℤ v.second) v.first

pub from_is : (t : Bool) (u n : Vector) → dot (across_from t u) n ≡ ahead t u n
from_is true u n = across_from_left u.first u.second n.first n.second
from_is false u n = across_from_right u.first u.second n.first n.second

pub to_is : (t : Bool) (v n : Vector) → dot (across_to t v) n ≡ ahead t n v
to_is true v n = across_to_left v.first v.second n.first n.second
to_is false v n = across_to_right v.first v.second n.first n.second

pub from_length : (t : Bool) (u : Vector) → dot (across_from t u) (across_from t u) ≡ dot u u
from_length true u = across_length_left u.first u.second
from_length false u = across_length_right u.first u.second

pub to_length : (t : Bool) (v : Vector) → dot (across_to t v) (across_to t v) ≡ dot v v
to_length true v = across_end_left v.first v.second
to_length false v = across_end_right v.first v.second
