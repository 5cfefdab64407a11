-- The last sample of a move is the cutter itself with its tip at the move's end.
use Rattle.std.specs.Prelude.{◌≡◌, ℕ, ◌*◌, ◌%◌, ◌^◌, ◌<◌, ◌==◌, nat_abs, Bool, true, ◌&&◌, ℤ, pos, negsuc, neg_ℤ, ◌+ℤ◌, ◌*ℤ◌, ◌<ℤ◌, ◌≤ℤ◌, Some}
use Rattle.std.proofs.Common.{refl, sym, ap, ◌∙◌, arith}
use Rattle.std.proofs.Math.Nat.{mul-mod_right}
use Rattle.std.proofs.lemmas.Int.{ints}
use Rattle.std.proofs.lemmas.Nat.{pow_pos}
use lib.IntN.{*ℤ_comm}
use Rattle.mill_base.proofs.Integers.{neg-mul-ℤ}
use Rattle.mill_base.proofs.Divisions.{floor_div_low, floor_div_high}
use Rattle.mill_base.specs.Numbers.{floor_div, ceil_div, round_half_up, divides}
use Rattle.mill_base.specs.Points.{point_at}
use Rattle.mill_base.specs.declared.points.Pt3.{Pt3}
use Rattle.mill_base.specs.declared.motion.Move.{Move}
use Rattle.mill_base.specs.declared.cutter.Cutter.{Cutter}
use Rattle.mill_sweep.specs.Leaves.{end_of}
use Rattle.mill_dexel.specs.Samples.{placed, sample_at, sample_centre, is_at_whole_place}
use Rattle.mill_dexel.proofs.LastCerts.{last_end, under_next}
use Rattle.mill_dexel.proofs.InnerCerts.{nearest_high}
use Rattle.mill_dexel.proofs.Places.{whole_is, whole_place}

-- the multiples of n
module _ (n : ℕ) (some : 0 < n) where
  is_multiple : (t : ℤ) → divides n (pos n *ℤ t) ≡ true
  is_multiple t = rw (size t) (none (nat_abs t))
    where
      size : (t : ℤ) → nat_abs (pos n *ℤ t) ≡ n * nat_abs t
      size (pos a) = omega (arith, ints)
      size (negsuc a) = omega (arith, ints)

      none : (a : ℕ) → ((n * a) % n == 0) ≡ true
      none a = rw (mul-mod_right n a) refl

  both_ways : (a b : ℤ) → a ≤ℤ b → b ≤ℤ a → a ≡ b
  both_ways a b h k = omega (arith, ints)

  positive : (pos 0) <ℤ pos n
  positive = omega (arith, ints)

  -- each quotient of a multiple is exact
  exact_down : (t : ℤ) → floor_div (pos n *ℤ t) n ≡ t
  exact_down t =
      both_ways (floor_div (pos n *ℤ t) n) t
      (nearest_high (pos n) (floor_div (pos n *ℤ t) n) t positive (loose (pos n *ℤ floor_div (pos n *ℤ t) n) (pos n *ℤ t) (floor_div_low (pos n *ℤ t) n some)))
      (under_next (pos n) (floor_div (pos n *ℤ t) n) t positive (floor_div_high (pos n *ℤ t) n some))
    where
      loose : (a b : ℤ) → a ≤ℤ b → (pos 2 *ℤ a) ≤ℤ (pos 2 *ℤ b +ℤ pos n)
      loose a b h = omega (arith, ints)

  exact_up : (t : ℤ) → ceil_div (pos n *ℤ t) n ≡ t
  exact_up t = rw (turned t, exact_down (neg_ℤ t)) (back t)
    where
      turned : (t : ℤ) → neg_ℤ (pos n *ℤ t) ≡ pos n *ℤ neg_ℤ t
      turned t = ap neg_ℤ (*ℤ_comm (pos n) t) ∙ sym (neg-mul-ℤ t (pos n)) ∙ *ℤ_comm (neg_ℤ t) (pos n)

      back : (t : ℤ) → neg_ℤ (neg_ℤ t) ≡ t
      back t = omega (arith, ints)

  exact_near : (t : ℤ) → round_half_up (pos n *ℤ t) n ≡ t
  exact_near t =
      let place = whole_place (pos n *ℤ t) n some (is_multiple t) in
      both_ways (round_half_up (pos n *ℤ t) n) t
      (nearest_high (pos n) (round_half_up (pos n *ℤ t) n) t positive (loose _ _ place))
      (nearest_high (pos n) t (round_half_up (pos n *ℤ t) n) positive (loose _ _ (sym place)))
    where
      loose : (a b : ℤ) → a ≡ b → (pos 2 *ℤ a) ≤ℤ (pos 2 *ℤ b +ℤ pos n)
      loose a b h = omega (arith, ints)

-- one coordinate of the tip at the last sample
end_at_last : (f t : ℤ) (d : ℕ) → end_of f t d (2 ^ d) ≡ pos (2 ^ d) *ℤ t
end_at_last f t d = last_end (pos (2 ^ d)) f t

both : (a b : Bool) → a ≡ true → b ≡ true → (a && b) ≡ true
both a b e f = rw (e, f) refl

pub last_is_whole : (m : Move) (d : ℕ) → is_at_whole_place m d (2 ^ d) ≡ true
last_is_whole m d = both _ _ (whole m.from.x m.to.x) (whole m.from.y m.to.y)
  where
    whole : (f t : ℤ) → divides (2 ^ d) (end_of f t d (2 ^ d)) ≡ true
    whole f t = ap (divides (2 ^ d)) (end_at_last f t d) ∙ is_multiple (2 ^ d) (pow_pos d) t

pub last_centre : (m : Move) (d : ℕ) → sample_centre m d (2 ^ d) ≡ m.to
last_centre m d = at (near m.from.x m.to.x) (near m.from.y m.to.y) (up m.from.z m.to.z)
  where
    near : (f t : ℤ) → round_half_up (end_of f t d (2 ^ d)) (2 ^ d) ≡ t
    near f t = ap (λ z. round_half_up z (2 ^ d)) (end_at_last f t d) ∙ exact_near (2 ^ d) (pow_pos d) t

    up : (f t : ℤ) → ceil_div (end_of f t d (2 ^ d)) (2 ^ d) ≡ t
    up f t = ap (λ z. ceil_div z (2 ^ d)) (end_at_last f t d) ∙ exact_up (2 ^ d) (pow_pos d) t

    at : {x y z : ℤ} → x ≡ m.to.x → y ≡ m.to.y → z ≡ m.to.z → point_at x y z ≡ m.to
    at e f g = rw (e, f, g) refl

pub last_sample : (cutter : Cutter) (m : Move) (d : ℕ) → sample_at cutter m d (2 ^ d) ≡ Some (placed cutter m.to)
last_sample cutter m d = sym (whole_is cutter m d (2 ^ d) (last_is_whole m d)) ∙ ap (λ (p : Pt3). Some (placed cutter p)) (last_centre m d)
