-- The height at the end of the turn.
use Rattle.std.specs.Prelude.{◌≡◌, ℕ, zero, suc, ◌+◌, ◌-◌, ◌*◌, ◌/◌, ◌^◌, ◌<◌, ℤ, pos, negsuc, neg_ℤ, nat_abs, ◌+ℤ◌, ◌*ℤ◌}
use Rattle.std.proofs.Common.{ap, arith, refl, subst, sym, ◌∙◌}
use Rattle.std.proofs.Math.Nat.{div-div-eq-div-mul, mul-div_cancel, one-le-pow}
use lib.IntN.{*ℤ_comm, +ℤ_idl}
use Rattle.mill_base.proofs.Integers.{zero-mul-ℤ}
use Rattle.mill_base.specs.declared.unit.Unit.{Unit}
use Rattle.mill_base.specs.declared.unit.Unit.TheVariants.{Hundredth, Thousandth}
use Rattle.mill_arc.specs.Arcs.{nanometres_of}
use Rattle.mill_arc.specs.Places.{LastHeightIsEnd, nearest, nearest_up}

-- over a denominator that is so many times as great, with the number, it is the same
nearest_up-wider : (a n c : ℕ) → 0 < n → 0 < c → nearest_up (a * c) (c * n) ≡ nearest_up a n
nearest_up-wider a n c some more =
    let over : 2 * (a * c) + c * n ≡ (2 * a + n) * c = omega arith in
    let under : 2 * (c * n) ≡ c * (2 * n) = omega arith in
    ap (λ t. t / (2 * (c * n))) over ∙ ap (λ t. ((2 * a + n) * c) / t) under ∙ sym (div-div-eq-div-mul ((2 * a + n) * c) c (2 * n))
    ∙ ap (λ t. t / (2 * n)) (mul-div_cancel (2 * a + n) {n = c} more)

below : (k j m : ℕ) → k ≡ suc j → nearest (neg_ℤ (pos k)) m ≡ neg_ℤ (pos (nearest_up k m))
unfolding nearest
below k j m e = subst (λ (t : ℕ). nearest (neg_ℤ (pos t)) m ≡ neg_ℤ (pos (nearest_up t m))) (sym e) refl

nearest-wider : (z : ℤ) (n c : ℕ) → 0 < n → 0 < c → nearest (z *ℤ pos c) (c * n) ≡ nearest z n
unfolding nearest
nearest-wider (pos a) n c some more = ap pos (nearest_up-wider a n c some more)
nearest-wider (negsuc a) n zero some more = absurd (omega arith)
nearest-wider (negsuc a) n (suc c) some more =
    below (suc a * suc c) (a + suc a * c) (suc c * n) (omega arith) ∙ ap (λ (t : ℕ). neg_ℤ (pos t)) (nearest_up-wider (suc a) n (suc c) some more)

units : (unit : Unit) → 0 < nat_abs (nanometres_of unit)
units Hundredth = omega arith
units Thousandth = omega arith

whole_way : (from to : ℤ) (n : ℕ) → from *ℤ pos (n - n) +ℤ to *ℤ pos n ≡ to *ℤ pos n
whole_way from to n = ap (λ (k : ℕ). from *ℤ pos k +ℤ to *ℤ pos n) (none n) ∙ ap (λ (z : ℤ). z +ℤ to *ℤ pos n) (*ℤ_comm from (pos 0) ∙ zero-mul-ℤ from) ∙ +ℤ_idl (to *ℤ pos n)
  where
    none : (n : ℕ) → n - n ≡ 0
    none n = omega arith

pub last_height_is_end : LastHeightIsEnd
last_height_is_end unit from to depth =
    ap (λ (z : ℤ). nearest z (2 ^ depth * nat_abs (nanometres_of unit))) (whole_way from to (2 ^ depth))
    ∙ nearest-wider to (nat_abs (nanometres_of unit)) (2 ^ depth) (units unit) (omega (arith, one-le-pow depth 2 (omega arith)))
