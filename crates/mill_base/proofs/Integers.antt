-- The ring and order laws of ℤ.
use Rattle.std.proofs.Common.{◌≡◌, ◌*◌, ◌<◌, ap, ◌∙◌, arith}
use Rattle.std.proofs.Math.Nat.{mul-pos}
use lib.IntN.{ℤ, pos, negsuc, neg_ℤ, ◌+ℤ◌, ◌*ℤ◌, *ℤ_comm}
use lib.Signed.{◌<ℤ◌, ◌≤ℤ◌}
use borrow.Author.Differences.{up, down, same_in, sum_is_lem, neg_is, product_is}
use Rattle.std.proofs.lemmas.Int.{ints}

pub mul-add-ℤ : (a b c : ℤ) → a *ℤ (b +ℤ c) ≡ a *ℤ b +ℤ a *ℤ c
mul-add-ℤ a b c = same_in _ _ (omega (arith, ints, ap (λ t. up a * t) (sum_is_lem b c), ap (λ t. down a * t) (sum_is_lem b c)))

pub mul_assoc-ℤ : (a b c : ℤ) → (a *ℤ b) *ℤ c ≡ a *ℤ (b *ℤ c)
mul_assoc-ℤ a b c =
    let p = product_is a b in
    let q = product_is b c in
    same_in _ _ (omega (arith, ints, ap (λ t. t * up c) p.0, ap (λ t. t * down c) p.0, ap (λ t. t * up c) p.1, ap (λ t. t * down c) p.1, ap (λ t. up a * t) q.0, ap (λ t. down a * t) q.0, ap (λ t. up a * t) q.1, ap (λ t. down a * t) q.1))

pub add-mul-ℤ : (a b c : ℤ) → (a +ℤ b) *ℤ c ≡ a *ℤ c +ℤ b *ℤ c
add-mul-ℤ a b c = *ℤ_comm (a +ℤ b) c ∙ mul-add-ℤ c a b ∙ ap (λ t. t +ℤ c *ℤ b) (*ℤ_comm c a) ∙ ap (λ t. a *ℤ c +ℤ t) (*ℤ_comm c b)

pub neg-mul-ℤ : (a b : ℤ) → neg_ℤ a *ℤ b ≡ neg_ℤ (a *ℤ b)
neg-mul-ℤ a b = let p = neg_is a in same_in _ _ (omega (arith, ints, ap (λ t. t * up b) p.0, ap (λ t. t * down b) p.0, ap (λ t. t * up b) p.1, ap (λ t. t * down b) p.1))

pub one-mul-ℤ : (a : ℤ) → pos 1 *ℤ a ≡ a
one-mul-ℤ a = same_in _ _ (omega (arith, ints))

pub zero-mul-ℤ : (a : ℤ) → pos 0 *ℤ a ≡ pos 0
zero-mul-ℤ a = same_in _ _ (omega (arith, ints))

pub sq-ℤ : (a : ℤ) → (pos 0) ≤ℤ (a *ℤ a)
sq-ℤ (pos n) = omega (arith, ints)
sq-ℤ (negsuc n) = omega (arith, ints)

pub mul_nonneg-ℤ : (a b : ℤ) → (pos 0) ≤ℤ a → (pos 0) ≤ℤ b → (pos 0) ≤ℤ (a *ℤ b)
mul_nonneg-ℤ (pos n) (pos m) h k = omega (arith, ints)
mul_nonneg-ℤ (pos n) (negsuc m) h k = absurd (omega (arith, ints))
mul_nonneg-ℤ (negsuc n) b h k = absurd (omega (arith, ints))

pub mul_pos-ℤ : (a b : ℤ) → (pos 0) <ℤ a → (pos 0) <ℤ b → (pos 0) <ℤ (a *ℤ b)
mul_pos-ℤ (pos n) (pos m) h k = let p : 0 < n = omega (arith, ints) in let q : 0 < m = omega (arith, ints) in omega (arith, ints, mul-pos p q)
mul_pos-ℤ (pos n) (negsuc m) h k = absurd (omega (arith, ints))
mul_pos-ℤ (negsuc n) b h k = absurd (omega (arith, ints))
