-- Roots of squares of lengths.
use Rattle.std.specs.Prelude.{◌≡◌, ℕ, ◌+◌, ◌*◌, ◌^◌, ◌<◌, ◌≤◌, ℤ, pos, nat_abs, ◌+ℤ◌, ◌*ℤ◌, ◌<ℤ◌, ◌≤ℤ◌}
use Rattle.std.specs.Prelude.{negsuc, suc}
use Rattle.std.proofs.Common.{arith, inl, inr}
use Rattle.std.proofs.lemmas.Bool.{cases_lt}
use Rattle.std.proofs.Math.Nat.{mul-le-mul}
use Rattle.std.proofs.lemmas.Int.{ints}
use Rattle.mill_base.specs.Numbers.{floor_root_of}
use Rattle.mill_arc.specs.Arcs.{IsArc}
use Rattle.mill_arc.specs.Vectors.{dot}
use Rattle.mill_base.proofs.Integers.{sq-ℤ}
use Rattle.mill_arc.specs.declared.arc.Arc.{Arc}
use Rattle.mill_arc.specs.declared.vectors.Vector.{Vector}
use Rattle.mill_arc.specs.declared.arc.TheConstants.{MAX_START}
use Rattle.mill_shape.proofs.RootLemmas.{floor_root_agrees}

-- what is shown to be a root is what the definition computes
pub root_agrees : (n r : ℕ) → n < 2 ^ 64 → r * r ≤ n → n < (r + 1) * (r + 1) → r ≡ floor_root_of n
root_agrees n r small below above = floor_root_agrees n r small (record { below = below; above = above })

pub square_most : (n : ℤ) (g : ℕ) → nat_abs n ≤ g → (n *ℤ n) ≤ℤ (pos g *ℤ pos g)
square_most (pos a) g h = omega (arith, ints, mul-le-mul {n₁ = a} {m₁ = a} {n₂ = g} {m₂ = g} h h)
square_most (negsuc a) g h = omega (arith, ints, mul-le-mul {n₁ = suc a} {m₁ = suc a} {n₂ = g} {m₂ = g} h h)

-- the start of an arc is nearer than 2^31
pub start_short : (arc : Arc) → IsArc arc → dot arc.start arc.start <ℤ pos (2 ^ 62)
start_short arc h =
    let one = square_most arc.start.first MAX_START h.start_first.within in
    let two = square_most arc.start.second MAX_START h.start_second.within in
    by (arc.start.first *ℤ arc.start.first) (arc.start.second *ℤ arc.start.second) one two
  where
    by : (a b : ℤ) → a ≤ℤ (pos MAX_START *ℤ pos MAX_START) → b ≤ℤ (pos MAX_START *ℤ pos MAX_START) → (a +ℤ b) <ℤ pos (2 ^ 62)
    by a b p q = omega (arith, ints)

-- the root of a number under 2^62
pub root_within : (n r : ℕ) → n < 2 ^ 62 → r * r ≤ n → r < 2 ^ 31
root_within n r small below = elim (cases_lt r (2 ^ 31)) [ inl less ↦ less | inr more ↦ absurd (let square = mul-le-mul {n₁ = 2 ^ 31} {m₁ = 2 ^ 31} {n₂ = r} {m₂ = r} more more in omega arith) ]

pub square_least : (a : Vector) → (pos 0) ≤ℤ dot a a
square_least a = by (a.first *ℤ a.first) (a.second *ℤ a.second) (sq-ℤ a.first) (sq-ℤ a.second)
  where
    by : (p q : ℤ) → (pos 0) ≤ℤ p → (pos 0) ≤ℤ q → (pos 0) ≤ℤ (p +ℤ q)
    by p q h k = omega (arith, ints)
