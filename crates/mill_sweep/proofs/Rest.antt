-- The ends of a leaf from one another, and a leaf along an axis on which the move is at rest.
use Rattle.std.specs.Prelude.{◌≡◌, ℕ, ◌+◌, ◌*◌, ◌^◌, ◌<◌, ◌≤◌, max, nat_abs, ℤ, pos, ◌+ℤ◌, ◌-ℤ◌, ◌*ℤ◌, ◌<ℤ◌, ◌≤ℤ◌}
use Rattle.std.proofs.Common.{[], ◌∷◌, refl, arith}
use Rattle.std.proofs.lemmas.Int.{ints}
use Rattle.std.proofs.lemmas.Nat.{pow_pos}
use Rattle.mill_base.proofs.Ring.{Var, Num, Add, Sub, Mul, ring}
use Rattle.mill_sweep.specs.Leaves.{end_of, middle_of, farther_of, lower_of}
use Rattle.mill_sweep.proofs.Far.{middle_most, middle_least, lower_least}
use Rattle.mill_sweep.proofs.LeafCerts.{scale_down_le}
use Rattle.mill_sweep.proofs.Spans.{div_ceil_most, lower_first}

-- the last end is the first, moved on by the move's length
pub next_end : (f t : ℤ) (d k : ℕ) → end_of f t d k +ℤ (t -ℤ f) ≡ end_of f t d (k + 1)
next_end f t d k =
    ring (pos (2 ^ d) ∷ pos k ∷ f ∷ t ∷ [])
    (Add (Add (Mul (Sub (Var 0) (Var 1)) (Var 2)) (Mul (Var 1) (Var 3))) (Sub (Var 3) (Var 2)))
    (Add (Mul (Sub (Var 0) (Add (Var 1) (Num (pos 1)))) (Var 2)) (Mul (Add (Var 1) (Num (pos 1))) (Var 3))) refl

-- a leaf's end, where both ends of the move are the same
end_at_rest : (f : ℤ) (d k : ℕ) → end_of f f d k ≡ pos (2 ^ d) *ℤ f
end_at_rest f d k = ring (pos (2 ^ d) ∷ pos k ∷ f ∷ []) (Add (Mul (Sub (Var 0) (Var 1)) (Var 2)) (Mul (Var 1) (Var 2))) (Mul (Var 0) (Var 2)) refl

some : (n : ℕ) → 0 < n → (pos 0) <ℤ pos n
some n h = omega (arith, ints)

same : (x : ℤ) → x ≤ℤ x
same x = omega (arith, ints)

both_ways : (x y : ℤ) → x ≤ℤ y → y ≤ℤ x → x ≡ y
both_ways x y p q = omega (arith, ints)

-- so is the leaf's middle, with both ends of the leaf there, and its lower end
pub middle_at_rest : (f : ℤ) (d k : ℕ) → k < 2 ^ d → middle_of f f d k ≡ f
middle_at_rest f d k inside = both_ways _ _ (middle_most f f f d k inside (same f) (same f)) (middle_least f f f d k inside (same f) (same f))

pub farther_at_rest : (f : ℤ) (d k : ℕ) → k < 2 ^ d → farther_of f f d k ≡ 0
farther_at_rest f d k inside =
    let none = div_ceil_most (max (nat_abs (end_of f f d k -ℤ pos (2 ^ d) *ℤ middle_of f f d k)) (nat_abs (end_of f f d (k + 1) -ℤ pos (2 ^ d) *ℤ middle_of f f d k))) (2 ^ d) 0 (pow_pos d)
    (rw (middle_at_rest f d k inside, end_at_rest f d k, end_at_rest f d (k + 1)) (apart (pos (2 ^ d) *ℤ f) (2 ^ d))) in
    omega arith
  where
    apart : (x : ℤ) (n : ℕ) → max (nat_abs (x -ℤ x)) (nat_abs (x -ℤ x)) ≤ 0 * n
    apart x n = omega (arith, ints)

pub lower_at_rest : (f : ℤ) (d k : ℕ) → k < 2 ^ d → lower_of f f d k ≡ f
lower_at_rest f d k inside =
    both_ways _ _
    (scale_down_le (pos (2 ^ d)) (lower_of f f d k) f (some (2 ^ d) (pow_pos d)) (rw (← end_at_rest f d k) (lower_first f f d k)))
    (lower_least f f f d k inside (same f) (same f))
