-- Coordinates that are whole numbers of nanometres.
use Rattle.std.specs.Prelude.{◌≡◌, ℕ, zero, suc, ◌*◌, ◌/◌, ◌<◌, ℤ, pos, negsuc, neg_ℤ, nat_abs, ◌+ℤ◌, ◌*ℤ◌}
use Rattle.std.proofs.Common.{ap, arith, sym, refl, ◌∙◌, subst}
use Rattle.std.proofs.Math.Nat.{div-eq_of_eq-mul_left, mul-pos}
use Rattle.mill_base.proofs.Integers.{add-mul-ℤ, mul_assoc-ℤ}
use Rattle.mill_base.specs.declared.unit.Unit.{Unit}
use Rattle.mill_base.specs.declared.unit.Unit.TheVariants.{Hundredth, Thousandth}
use Rattle.mill_control.specs.Lengths.{is_below_zero, signed}
use Rattle.mill_control.specs.Unrounded.{nano_of, nano_parts, nano_units, parts}
use lib.IntN.{*ℤ_comm}

-- units, and what is beside them, in nanometres
unit-parts : (unit : Unit) → pos (nano_units unit) *ℤ pos (nano_parts unit) ≡ parts
unit-parts Hundredth = refl
unit-parts Thousandth = refl

pub nano_exact : (unit : Unit) (units finer beside : ℤ) → beside *ℤ pos (nano_parts unit) ≡ finer
    → ((units *ℤ pos (nano_units unit)) +ℤ beside) *ℤ pos (nano_parts unit) ≡ (parts *ℤ units) +ℤ finer
nano_exact unit units finer beside e =
    add-mul-ℤ (units *ℤ pos (nano_units unit)) beside (pos (nano_parts unit))
    ∙ ap (λ t. t +ℤ beside *ℤ pos (nano_parts unit)) (mul_assoc-ℤ units (pos (nano_units unit)) (pos (nano_parts unit)) ∙ ap (λ t. units *ℤ t) (unit-parts unit) ∙ *ℤ_comm units parts)
    ∙ ap (λ t. (parts *ℤ units) +ℤ t) e

-- what so many nanometres are
below : (n g a : ℕ) → 0 < n → n / g ≡ suc a → signed (is_below_zero (neg_ℤ (pos n))) (nat_abs (neg_ℤ (pos n)) / g) ≡ negsuc a
below (suc n) g a some e = ap (λ t. neg_ℤ (pos t)) e
below zero g a some e = absurd (omega arith)

taken : (g : ℕ) → 0 < g → (r : ℤ) → signed (is_below_zero (r *ℤ pos g)) (nat_abs (r *ℤ pos g) / g) ≡ r
taken g some (pos a) = ap pos (div-eq_of_eq-mul_left {n = g} {m = a * g} {k = a} some refl)
taken g some (negsuc a) = let more : 0 < suc a = omega arith in below (suc a * g) g a (mul-pos more some) (div-eq_of_eq-mul_left {n = g} {m = suc a * g} {k = suc a} some refl)

parts-some : (unit : Unit) → 0 < nano_parts unit
parts-some Hundredth = omega arith
parts-some Thousandth = omega arith

pub nano_is : (unit : Unit) (nano t : ℤ) → nano *ℤ pos (nano_parts unit) ≡ t → nano ≡ nano_of unit t
nano_is unit nano t e = subst (λ z. nano ≡ nano_of unit z) e (sym (taken (nano_parts unit) (parts-some unit) nano))
