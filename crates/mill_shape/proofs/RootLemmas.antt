-- Roots of whole numbers: what the definitions compute, bit by bit, is the root, and there is one.
use Rattle.std.specs.Prelude.{◌≡◌, ◌≢◌, ℕ, zero, suc, ◌+◌, ◌-◌, ◌*◌, ◌^◌, ◌==◌, ◌<◌, ◌≤◌, leb, cond, Bool, true, false}
use Rattle.std.proofs.Common.{inl, inr, refl, subst, arith}
use Rattle.std.proofs.Math.Nat.{mul-le-mul, mul-lt-mul_of_pos_left}
use Rattle.std.proofs.lemmas.Bool.{leb-true, leb-false, eqb-true, eqb-false, cases_lt}
use Rattle.mill_shape.specs.inner.Roots.{IsFloorRoot, IsCeilRoot}
use Rattle.mill_base.specs.Numbers.{root_from, floor_root_of, ceil_root_of}

-- one less than the next number
back : (r : ℕ) → suc r - 1 ≡ r
back r = omega arith

back' : (r : ℕ) → r + 1 - 1 ≡ r
back' r = omega arith

-- squares grow
square_grows : (r : ℕ) → r * r < suc r * suc r
square_grows r =
    let less : r < suc r = omega arith in
    let some : 0 < suc r = omega arith in
    let most : r ≤ suc r = omega arith in
    let same : r ≤ r = omega arith in
    let one : r * r ≤ suc r * r = mul-le-mul most same in
    let two : suc r * r < suc r * suc r = mul-lt-mul_of_pos_left less some in
    omega arith

lesser_square : (p q : ℕ) → p * p < q * q → p < q
lesser_square p q h = elim (cases_lt p q) [ inl less ↦ less | inr more ↦ absurd (let square = mul-le-mul more more in omega arith) ]

-- the square of a number less than a root plus 1 is less, so two roots are at most each other
pub one_floor_root : (n r q : ℕ) → IsFloorRoot n r → IsFloorRoot n q → r ≡ q
one_floor_root n r q h k =
    let below = h.below in
    let above = h.above in
    let below' = k.below in
    let above' = k.above in
    let r_under : r * r < (q + 1) * (q + 1) = omega arith in
    let q_under : q * q < (r + 1) * (r + 1) = omega arith in
    let one = lesser_square r (q + 1) r_under in
    let two = lesser_square q (r + 1) q_under in
    omega arith

ceil_at_most : (n r q : ℕ) → IsCeilRoot n r → IsCeilRoot n q → r ≤ q
ceil_at_most n zero q h k = omega arith
ceil_at_most n (suc r) q h k =
    let some : 0 < suc r = omega arith in
    let least : r * r < n = rw (back r) at (h.least some) in
    let reaches = k.reaches in
    let under : r * r < q * q = omega arith in
    let less = lesser_square r q under in
    omega arith

pub one_ceil_root : (n r q : ℕ) → IsCeilRoot n r → IsCeilRoot n q → r ≡ q
one_ceil_root n r q h k = let one = ceil_at_most n r q h k in let two = ceil_at_most n q r k h in omega arith

-- each step halves how far the root can be over r: it goes to r + 2 ^ bits where that square is at most n
root_from_is : (bits r n : ℕ) → r * r ≤ n → n < (r + 2 ^ bits) * (r + 2 ^ bits) → IsFloorRoot n (root_from bits r n)
root_from_is zero r n low high = record { below = low; above = high }
root_from_is (suc bits) r n low high = by (root_from_is bits) (leb ((r + 2 ^ bits) * (r + 2 ^ bits)) n) refl
  where
    halves : r + 2 ^ suc bits ≡ (r + 2 ^ bits) + 2 ^ bits
    halves = omega arith

    by : ((s m : ℕ) → s * s ≤ m → m < (s + 2 ^ bits) * (s + 2 ^ bits) → IsFloorRoot m (root_from bits s m)) → (t : Bool) → leb ((r + 2 ^ bits) * (r + 2 ^ bits)) n ≡ t → IsFloorRoot n (root_from bits (cond t (r + 2 ^ bits) r) n)
    by rest true e = rest (r + 2 ^ bits) n (leb-true _ n e) (subst (λ t. n < t * t) halves high)
    by rest false e = rest r n low (leb-false _ n e)

pub floor_root_is : (n : ℕ) → n < 2 ^ 64 → IsFloorRoot n (floor_root_of n)
floor_root_is n h = root_from_is 32 0 n (omega arith) h

-- the least root is the greatest one, or one more where that isn't exact
ceil_from : (n r : ℕ) → IsFloorRoot n r → (t : Bool) → (r * r == n) ≡ t → IsCeilRoot n (cond t r (r + 1))
ceil_from n zero h true e = let exact : 0 * 0 ≡ n = eqb-true _ n e in record { reaches = omega arith; least = λ some. absurd (omega arith) }
ceil_from n (suc r) h true e = let exact : suc r * suc r ≡ n = eqb-true _ n e in record { reaches = omega arith; least = λ _. rw (back r) (subst (λ t. r * r < t) exact (square_grows r)) }
ceil_from n r h false e =
    let uneven : r * r ≢ n = eqb-false _ n e in
    let below = h.below in
    let above = h.above in
    record { reaches = omega arith; least = λ _. rw (back' r) (omega arith) }

pub ceil_root_is : (n : ℕ) → n < 2 ^ 64 → IsCeilRoot n (ceil_root_of n)
ceil_root_is n h = ceil_from n (floor_root_of n) (floor_root_is n h) (floor_root_of n * floor_root_of n == n) refl

-- so what is shown to be a root is what the definitions compute
pub floor_root_agrees : (n r : ℕ) → n < 2 ^ 64 → IsFloorRoot n r → r ≡ floor_root_of n
floor_root_agrees n r h root = one_floor_root n r (floor_root_of n) root (floor_root_is n h)

pub ceil_root_agrees : (n r : ℕ) → n < 2 ^ 64 → IsCeilRoot n r → r ≡ ceil_root_of n
ceil_root_agrees n r h root = one_ceil_root n r (ceil_root_of n) root (ceil_root_is n h)
