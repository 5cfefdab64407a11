-- Numbers of so many digits.
use Rattle.std.proofs.Common.{◌≡◌, ℕ, suc, ◌+◌, ◌-◌, ◌*◌, ◌<◌, ◌≤◌, ◌^◌, arith, add-one, true}
use Rattle.std.specs.Char.{is_ascii_digit, digit_value}
use Rattle.std.proofs.lemmas.Bool.Decides.{nat_tests}
use Rattle.std.proofs.Math.Nat.{pow-le-pow_right, pow-succ'}
use Rattle.mill_words.specs.declared.word.Num.{Num}
use Rattle.mill_words.specs.Words.{FitsNum}

pub below : (k most m : ℕ) → k ≤ most → m < 10 ^ k → m < 10 ^ most
below k most m le lt = omega (arith, pow-le-pow_right {n = 10} (omega arith) {i = k} {j = most} le)

pub wider : (k : ℕ) (n : Num) → k ≤ 18 → FitsNum k n → FitsNum 18 n
wider k n le fits = record { mant = below k 18 n.mant le fits.mant; scale = omega arith }

next : (k : ℕ) → 10 ^ suc k ≡ 10 * 10 ^ k
next k = pow-succ' 10 k

pub one_more : (k m d : ℕ) → m < 10 ^ k → d < 10 → 10 * m + d < 10 ^ (k + 1)
one_more k m d lt digit = rw (add-one, next) (omega arith)

-- the value of a digit, as the code has it
pub digit_of : (b : ℕ) → is_ascii_digit b ≡ true → (digit_value b < 10) × (digit_value b ≡ b - 48)
digit_of b h = (grind (arith, nat_tests), grind (arith, nat_tests))
