-- How many touches a search by halves takes.
use Rattle.std.proofs.Common.{◌≡◌, ℕ, zero, suc, ◌+◌, ◌*◌, ◌<◌, ◌≤◌, subst, arith}
use Rattle.std.specs.Prelude.{◌^◌}
use Rattle.std.proofs.lemmas.Grind.{pow_more}

-- fewer than 2^m positions are left, and with `each` touches more for each halving the counter is at most each * n over where it began
pub record IsPaid (each count old now n : ℕ) : Type 0 where
  pub m : ℕ
  pub under : count < 2 ^ m
  pub paid : now + each * m ≤ old + each * n

-- where some position is left, half of them are under half the power
pub half_under : (m count half : ℕ) → 0 < count → 2 * half ≤ count → count < 2 ^ m → (k : ℕ) × (m ≡ suc k) × (half < 2 ^ k)
half_under zero count half some le under = absurd (let u : count < 1 = under in omega arith)
half_under (suc k) count half some le under = (k, omega arith, half_it (subst (λ m. count < 2 ^ m) (omega arith) under))
  where
    half_it : count < 2 ^ (k + 1) → half < 2 ^ k
    half_it u = let more = pow_more 2 k in omega arith

-- before the first touch
pub paid_first : (each count old n : ℕ) → count < 2 ^ n → IsPaid each count old old n
paid_first each count old n h = record { m = n; under = h; paid = omega arith }

-- one touch, after which at most half of the positions are left
pub paid_half : {each count half old now later n : ℕ} → 0 < each → 0 < count → 2 * half ≤ count → later ≡ now + 1 → IsPaid each count old now n → IsPaid each half old later n
paid_half {each} {count} {half} {old} {now} {later} {n} touches some le step h =
    let k = half_under h.m count half some le h.under in
    let p = subst (λ m. now + each * m ≤ old + each * n) k.1 h.paid in
    record { m = k.0; under = k.2; paid = omega arith }

-- what was paid in the end
pub paid_last : {each count old now n : ℕ} → IsPaid each count old now n → now ≤ old + each * n
paid_last h = let p = h.paid in omega arith

-- the same where some touches may come besides
pub paid_spare : {each count old now n : ℕ} (spare : ℕ) → IsPaid each count old now n → now ≤ old + (each * n + spare)
paid_spare spare h = let p = h.paid in omega arith

-- after one touch that finds a position, both its ends: each is looked for in a half of its own, with so many touches near its aim besides
pub paid_ends : {count left right old now found first last n : ℕ} (spare : ℕ) → 0 < count → 2 * left ≤ count → 2 * right ≤ count → found ≡ now + 1
    → ((k : ℕ) → left < 2 ^ k → first ≤ found + (k + spare)) → ((k : ℕ) → right < 2 ^ k → last ≤ first + (k + spare)) → IsPaid 2 count old now n → last ≤ old + (2 * n + 2 * spare)
paid_ends {count} {left} {right} spare some le ri step to_left to_right h =
    let a = half_under h.m count left some le h.under in
    let b = half_under h.m count right some ri h.under in
    let p = h.paid in
    let e = a.1 in
    let f = b.1 in
    let c = to_left a.0 a.2 in
    let d = to_right b.0 b.2 in
    omega arith

-- where 2 ^ q times as many positions are fewer than 2 ^ n, they are fewer than the power that is q under it
pub under_by : (q n rest count : ℕ) → 0 < rest → 2 ^ q * rest ≤ count → count < 2 ^ n → (k : ℕ) × (n ≡ k + q) × (rest < 2 ^ k)
under_by zero n rest count some few under = (n, omega arith, omega arith)
under_by (suc q) n rest count some few under =
    let more : 2 ^ q * 2 * rest ≤ count = subst (λ p. p * rest ≤ count) (pow_more 2 q) (subst (λ m. 2 ^ m * rest ≤ count) (omega arith) few) in
    let h = under_by q n (2 * rest) count (omega arith) (omega (more, arith)) under in
    let k = half_under h.0 (2 * rest) rest (omega arith) (omega arith) h.2 in
    let e = h.1 in
    let f = k.1 in
    (k.0, omega arith, k.2)
