-- Pairs of numbers whose squares sum to at most that of a third.
use Rattle.std.specs.Prelude.{ℤ, pos, ◌+ℤ◌, ◌*ℤ◌, ◌<ℤ◌, ◌≤ℤ◌}
use Rattle.std.proofs.Common.{arith}
use Rattle.std.proofs.lemmas.Int.{ints}
use Rattle.mill_base.proofs.Integers.{mul_nonneg-ℤ}
use Rattle.mill_arc.proofs.RingCerts.{scale_near, sum_dot, sum_near, unscale_near, widen_near}

pub record Near (r x y : ℤ) : Type 0 where
  pub some : (pos 0) ≤ℤ r
  pub near : (x *ℤ x +ℤ y *ℤ y) ≤ℤ (r *ℤ r)

pub near_sum : (r q x y a b : ℤ) → Near r x y → Near q a b → Near (r +ℤ q) (x +ℤ a) (y +ℤ b)
near_sum r q x y a b first second = record {
  some = sum r q first.some second.some;
  near = sum_near x y a b r q first.near second.near (sum_dot x y a b r q first.near second.near first.some second.some);
}
  where
    sum : (r q : ℤ) → (pos 0) ≤ℤ r → (pos 0) ≤ℤ q → (pos 0) ≤ℤ (r +ℤ q)
    sum r q h k = omega (arith, ints)

pub near_times : (k r x y : ℤ) → (pos 0) ≤ℤ k → Near r x y → Near (k *ℤ r) (k *ℤ x) (k *ℤ y)
near_times k r x y h it = record { some = mul_nonneg-ℤ k r h it.some; near = scale_near k x y r it.near }

pub near_parts : (k r x y : ℤ) → (pos 0) <ℤ k → (pos 0) ≤ℤ r → Near (k *ℤ r) (k *ℤ x) (k *ℤ y) → Near r x y
near_parts k r x y h some it = record { some = some; near = unscale_near k x y r h it.near }

pub near_more : (r q x y : ℤ) → r ≤ℤ q → Near r x y → Near q x y
near_more r q x y h it = record { some = through r q it.some h; near = widen_near x y r q it.near it.some h }
  where
    through : (r q : ℤ) → (pos 0) ≤ℤ r → r ≤ℤ q → (pos 0) ≤ℤ q
    through r q h k = omega (arith, ints)
