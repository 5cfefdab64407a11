-- Where the samples of a move stand, and by which cutters: each is near the tip at its moment.
use Rattle.std.specs.Prelude.{◌≡◌, ℕ, zero, suc, ◌+◌, ◌*◌, ◌/◌, ◌%◌, ◌<◌, ◌==◌, nat_abs, Bool, true, false, if◌then◌else◌, ℤ, pos, negsuc, ◌+ℤ◌, ◌-ℤ◌, ◌*ℤ◌, ◌<ℤ◌, ◌≤ℤ◌, int_le, Option, Some, None}
use Rattle.std.proofs.Common.{refl, sym, ap, subst, ◌∙◌, arith}
use Rattle.std.proofs.Math.Nat.{div-add-mod}
use Rattle.std.proofs.lemmas.Int.{ints}
use Rattle.mill_base.proofs.Divisions.{half_low, half_high}
use Rattle.mill_base.specs.Numbers.{round_half_up, divides}
use Rattle.mill_base.specs.declared.limits.TheConstants.{MAX_RADIUS}
use Rattle.mill_base.specs.Points.{point_at}
use Rattle.mill_base.specs.Sizes.{IsCutter, HasRadius, inner, shift, radius_of, with_radius}
use Rattle.mill_base.specs.declared.motion.Move.{Move}
use Rattle.mill_base.specs.declared.cutter.Cutter.{Cutter}
use Rattle.mill_base.specs.declared.cutter.Cutter.TheVariants.{Flat, Ball, Cone}
use Rattle.mill_dexel.specs.declared.sample.Placed.{Placed}
use Rattle.mill_dexel.specs.Samples.{placed, sample_centre, is_at_whole_place, raised_over, sample_at}
use Rattle.mill_dexel.proofs.InnerCerts.{nearest_low, nearest_high}

-- a multiple of n is n times a whole number, which is the nearest to it
multiple : (z : ℤ) (n : ℕ) → divides n z ≡ true → (w : ℤ) × (z ≡ pos n *ℤ w)
multiple z n e = by z (exact_part (nat_abs z) (zero_is (nat_abs z % n) e))
  where
    zero_is : (r : ℕ) → (r == 0) ≡ true → r ≡ 0
    zero_is r h = grind arith

    exact_part : (a : ℕ) → a % n ≡ 0 → n * (a / n) ≡ a
    exact_part a h = let whole = div-add-mod a n in omega arith

    below : (a q : ℕ) → n * q ≡ a + 1 → (w : ℤ) × (negsuc a ≡ pos n *ℤ w)
    below a zero h = absurd (omega arith)
    below a (suc b) h = (negsuc b, omega (arith, ints))

    by : (z : ℤ) → n * (nat_abs z / n) ≡ nat_abs z → (w : ℤ) × (z ≡ pos n *ℤ w)
    by (pos a) h = (pos (a / n), omega (arith, ints))
    by (negsuc a) h = below a (nat_abs (negsuc a) / n) (omega (arith, ints))

pub whole_place : (z : ℤ) (n : ℕ) → 0 < n → divides n z ≡ true → pos n *ℤ round_half_up z n ≡ z
whole_place z n some e =
    let w = multiple z n e in
    let c = round_half_up z n in
    let high = nearest_high (pos n) c w.0 (omega (arith, ints)) (subst (λ t. (pos 2 *ℤ (pos n *ℤ c)) ≤ℤ (pos 2 *ℤ t +ℤ pos n)) w.1 (half_low z n some)) in
    let low = nearest_low (pos n) c w.0 (omega (arith, ints)) (subst (λ t. (pos 2 *ℤ t) <ℤ (pos 2 *ℤ (pos n *ℤ c) +ℤ pos n)) w.1 (half_high z n some)) in
    ap (λ t. pos n *ℤ t) (same c w.0 high low) ∙ sym w.1
  where
    same : (a b : ℤ) → a ≤ℤ b → b ≤ℤ a → a ≡ b
    same a b h k = omega (arith, ints)

-- the two cases of a narrower cutter
inner_some : (test : Bool) (v n : Cutter) → (if test then None else Some v) ≡ Some n → (test ≡ false) × (n ≡ v)
inner_some true v n e = cc
inner_some false v n e = (refl, cc)

-- a narrower cutter has a radius less by 1, which is a job's as well
pub record IsNarrower (cutter n : Cutter) : Type 0 where
  pub is : n ≡ with_radius cutter (radius_of cutter -ℤ pos 1)
  pub size : IsCutter n
  pub radius : radius_of n +ℤ pos 1 ≡ radius_of cutter

narrow_radius : (r : ℤ) → HasRadius r MAX_RADIUS → (pos 1) <ℤ r → HasRadius (r -ℤ pos 1) MAX_RADIUS
narrow_radius r size more = record { least = omega (arith, ints); within = let most = size.within in omega (arith, ints) }

narrow_size : (cutter : Cutter) → IsCutter cutter → (pos 1) <ℤ radius_of cutter → IsCutter (with_radius cutter (radius_of cutter -ℤ pos 1))
narrow_size (Flat r) size more = narrow_radius r size more
narrow_size (Ball r) size more = narrow_radius r size more
narrow_size (Cone r a b) size more = (narrow_radius r size.0 more, size.1)

radius_is : (cutter : Cutter) (s : ℤ) → radius_of (with_radius cutter s) ≡ s
radius_is (Flat r) s = refl
radius_is (Ball r) s = refl
radius_is (Cone r a b) s = refl

pub inner_is : (cutter n : Cutter) → IsCutter cutter → inner cutter ≡ Some n → IsNarrower cutter n
inner_is cutter n size e =
    let cases = inner_some (int_le (radius_of cutter) (pos 1)) (with_radius cutter (radius_of cutter -ℤ pos 1)) n e in
    record {
      is = cases.1;
      size = subst (λ c. IsCutter c) (sym cases.1) (narrow_size cutter size (over (radius_of cutter) cases.0));
      radius = subst (λ c. radius_of c +ℤ pos 1 ≡ radius_of cutter) (sym cases.1) (subst (λ s. s +ℤ pos 1 ≡ radius_of cutter) (sym (radius_is cutter (radius_of cutter -ℤ pos 1))) (back (radius_of cutter)));
    }
  where
    over : (r : ℤ) → int_le r (pos 1) ≡ false → (pos 1) <ℤ r
    over r h = omega (arith, ints)

    back : (r : ℤ) → (r -ℤ pos 1) +ℤ pos 1 ≡ r
    back r = omega (arith, ints)

-- the cases of a sample: the cutter itself at a whole place, and else none or the narrower cutter, raised
module _ (cutter : Cutter) (m : Move) (d k : ℕ) where
  abbrev pub narrow_sample : Cutter → Placed
  narrow_sample n = placed n (point_at (sample_centre m d k).x (sample_centre m d k).y ((sample_centre m d k).z +ℤ shift cutter (pos 1)))

  pub sample_cases : (P : Option Placed → Type 0) → (is_at_whole_place m d k ≡ true → P (Some (placed cutter (sample_centre m d k)))) → P None
      → ((n : Cutter) → inner cutter ≡ Some n → P (Some (narrow_sample n))) → P (sample_at cutter m d k)
  sample_cases P whole none narrow = by (is_at_whole_place m d k) refl
    where
      beside : (o : Option Cutter) → inner cutter ≡ o → P (raised_over (sample_centre m d k) (shift cutter (pos 1)) o)
      beside None e = none
      beside (Some n) e = narrow n e

      by : (b : Bool) → is_at_whole_place m d k ≡ b → P (if b then Some (placed cutter (sample_centre m d k)) else raised_over (sample_centre m d k) (shift cutter (pos 1)) (inner cutter))
      by true e = whole e
      by false e = beside (inner cutter) refl

  pub whole_is : is_at_whole_place m d k ≡ true → Some (placed cutter (sample_centre m d k)) ≡ sample_at cutter m d k
  whole_is e = ap (λ (b : Bool). if b then Some (placed cutter (sample_centre m d k)) else raised_over (sample_centre m d k) (shift cutter (pos 1)) (inner cutter)) (sym e)
