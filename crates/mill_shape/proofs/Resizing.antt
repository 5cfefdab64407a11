-- Wider and narrower cutters: their sizes, and how far they are shifted.
use Rattle.std.specs.Prelude.{◌≡◌, ℕ, ◌+◌, ◌*◌, ◌<◌, ◌≤◌, nat_abs, ℤ, pos, negsuc, ◌+ℤ◌, ◌-ℤ◌, ◌*ℤ◌, ◌<ℤ◌, ◌≤ℤ◌}
use Rattle.std.specs.Int.{div_ceil}
use Rattle.std.proofs.Common.{inl, inr, subst, sym, ◌∙◌, ap, arith}
use Rattle.std.proofs.Math.Nat.{mul-le-mul}
use Rattle.std.proofs.lemmas.Bool.{cases_lt}
use Rattle.std.proofs.lemmas.Grind.{div_ceil_times}
use Rattle.std.proofs.lemmas.Int.{ints}
use Rattle.mill_base.proofs.Divisions.{ceil_div_is}
use Rattle.mill_base.specs.Numbers.{ceil_div}
use Rattle.mill_base.specs.Sizes.{radius_of, with_radius, outer, HasRadius, IsSlope, IsCutter, IsWideCutter}
use Rattle.mill_base.specs.declared.limits.TheConstants.{MAX_RADIUS, MAX_WIDE_RADIUS, MAX_REACH}
use Rattle.mill_base.specs.declared.cutter.Cutter.{Cutter}
use Rattle.mill_base.specs.declared.cutter.Cutter.TheVariants.{Flat, Ball, Cone}

-- a rise computed without signs is the rise
pub rise_is : (reach rise run : ℤ) (d : ℕ) → (pos 0) ≤ℤ reach → IsSlope rise run → d ≡ div_ceil (nat_abs reach * nat_abs rise) (nat_abs run)
    → pos d ≡ ceil_div (reach *ℤ rise) (nat_abs run)
rise_is (pos x) (pos a) (pos b) d h s e = let least = s.run in ap pos e ∙ sym (ceil_div_is (x * a) b (omega (arith, ints)))
rise_is (pos x) (pos a) (negsuc b) d h s e = absurd (let least = s.run in omega (arith, ints))
rise_is (pos x) (negsuc a) run d h s e = absurd (let least = s.rise in omega (arith, ints))
rise_is (negsuc x) rise run d h s e = absurd (omega (arith, ints))

-- a slope of at most 16 rises at most 16 times the distance
under : (x a b d : ℕ) → 0 < b → a ≤ 16 * b → d ≡ div_ceil (x * a) b → d ≤ 16 * x
under x a b d h s e = elim (cases_lt d (16 * x + 1)) [
  | inl less ↦ omega arith
  | inr more ↦ absurd (
      let times : d * b < x * a + b = subst (λ t. t * b < x * a + b) (sym e) (div_ceil_times (x * a) b h).1 in
      let much : (16 * x + 1) * b ≤ d * b = mul-le-mul more (same b) in
      let little : x * a ≤ x * (16 * b) = mul-le-mul (same x) s in
      omega arith)
]
  where
    same : (n : ℕ) → n ≤ n
    same n = omega arith

pub rise_most : (reach rise run : ℤ) (d : ℕ) → (pos 0) ≤ℤ reach → reach ≤ℤ pos MAX_REACH → IsSlope rise run → d ≡ div_ceil (nat_abs reach * nat_abs rise) (nat_abs run)
    → (d ≤ 16 * MAX_REACH) × (pos d ≤ℤ (pos 16 *ℤ reach))
rise_most reach rise run d h l s e =
    let least = s.run in
    let steep = s.steepest in
    let rises = s.rise in
    let most = under (nat_abs reach) (nat_abs rise) (nat_abs run) d (omega (arith, ints)) (omega (arith, ints)) e in
    (omega (arith, ints), omega (arith, ints))

-- the radius of a widened cutter, and of a narrowed one, is in range
wider_radius : (r reach : ℤ) → HasRadius r MAX_RADIUS → (pos 0) ≤ℤ reach → reach ≤ℤ pos MAX_REACH → HasRadius (r +ℤ reach) MAX_WIDE_RADIUS
wider_radius r reach h l m = let least = h.least in let most = h.within in record { least = omega (arith, ints); within = omega (arith, ints) }

narrower_radius : (r : ℤ) → HasRadius r MAX_RADIUS → (pos 1) <ℤ r → HasRadius (r -ℤ pos 1) MAX_RADIUS
narrower_radius r h l = let least = h.least in let most = h.within in record { least = omega (arith, ints); within = omega (arith, ints) }

pub wide : (cutter wider : Cutter) (reach : ℤ) → IsCutter cutter → (pos 0) ≤ℤ reach → reach ≤ℤ pos MAX_REACH → wider ≡ outer cutter reach → IsWideCutter wider
wide (Flat r) wider reach h l m e = rw e (wider_radius r reach h l m)
wide (Ball r) wider reach h l m e = rw e (wider_radius r reach h l m)
wide (Cone r a b) wider reach h l m e = rw e (wider_radius r reach h.0 l m, h.1)

pub narrow : (cutter narrower : Cutter) → IsCutter cutter → (pos 1) <ℤ radius_of cutter → narrower ≡ with_radius cutter (radius_of cutter -ℤ pos 1) → IsCutter narrower
narrow (Flat r) narrower h l e = rw e (narrower_radius r h l)
narrow (Ball r) narrower h l e = rw e (narrower_radius r h l)
narrow (Cone r a b) narrower h l e = rw e (narrower_radius r h.0 l, h.1)
