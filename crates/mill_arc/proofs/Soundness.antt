-- The computed test of an arc says what its definition says.
use Rattle.std.specs.Prelude.{◌≡◌, Bool, true, false, not, ◌^◌, ℤ, pos, ◌-ℤ◌, ◌*ℤ◌, ◌<ℤ◌, int_le, int_lt}
use Rattle.std.proofs.Common.{refl, arith, ap₂}
use Rattle.std.specs.Ordering.{int_eq}
use Rattle.std.proofs.lemmas.Int.{ints}
use Rattle.mill_arc.proofs.Decided.{and_left, and_right, both_and, le_true, not_true, true_lt}
use Rattle.mill_arc.specs.Arcs.{IsSound, IsUnclear, deviation_of, greatest_radius, is_near, is_ring, is_round, is_same, is_unclear, least_radius}
use Rattle.mill_arc.specs.Vectors.{dot, vector}
use Rattle.mill_arc.specs.declared.arc.Arc.{Arc}
use Rattle.mill_arc.specs.declared.vectors.Vector.{Vector}

eq_true : (a b : ℤ) → int_eq a b ≡ true → a ≡ b
eq_true a b e = grind (arith, ints)

same_is : (a b : Vector) → is_same a b ≡ true → a ≡ b
same_is a b e =
    let one = eq_true a.first b.first (and_left (int_eq a.first b.first) _ e) in
    let two = eq_true a.second b.second (and_right (int_eq a.first b.first) _ e) in
    ap₂ (λ (p q : ℤ). vector p q) one two

differs : (a b : Vector) (t : Bool) → is_same a b ≡ t → ¬ (a ≡ b) → not t ≡ true
differs a b true e n = absurd (n (same_is a b e))
differs a b false e n = refl

-- an arc that isn't clear fails the test
unclear : (arc : Arc) → is_unclear arc ≡ false → ¬ IsUnclear arc
unclear arc e h = by (is_unclear arc) e
    (both_and (not (is_same arc.start arc.«end»)) _ (differs arc.start arc.«end» (is_same arc.start arc.«end») refl h.differs)
    (both_and (int_lt (pos 0) (dot arc.start arc.«end»)) _ (true_lt (pos 0) (dot arc.start arc.«end») h.onward) (true_lt _ _ h.close)))
  where
    by : (b : Bool) → b ≡ false → b ≡ true → ⊥
    by b p q = cc

pub round_is : (arc : Arc) → dot arc.«end» arc.«end» <ℤ pos (2 ^ 62) → is_round arc ≡ true → IsSound arc
round_is arc short e =
    let m = least_radius arc in
    let x = greatest_radius arc in
    let ring = and_left (is_ring m x (deviation_of arc)) (not (is_unclear arc)) e in
    let two = and_right (int_le (pos 1000) m) (is_near m x (deviation_of arc)) ring in
    record {
      short = short;
      some = le_true (pos 1000) m (and_left (int_le (pos 1000) m) (is_near m x (deviation_of arc)) ring);
      near = le_true (x -ℤ m) (deviation_of arc) (and_left (int_le (x -ℤ m) (deviation_of arc)) (int_le x (pos 2 *ℤ m)) two);
      twice = le_true x (pos 2 *ℤ m) (and_right (int_le (x -ℤ m) (deviation_of arc)) (int_le x (pos 2 *ℤ m)) two);
      clear = unclear arc (not_true (is_unclear arc) (and_right (is_ring m x (deviation_of arc)) (not (is_unclear arc)) e));
    }
