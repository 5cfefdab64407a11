-- Numbers within their widths are stored as they are.
use Rattle.std.proofs.Common.{◌≡◌, ℕ, ◌^◌, ◌≤◌, true, ltb, refl, sym, ap, ◌∙◌, subst, arith, w64}
use mir.Syntax.{Width}
use mir.Val.{hbits}
use lib.IntN.{ℤ, pos, ◌-ℤ◌, nat_abs}
use Rattle.std.proofs.lemmas.Int.{ints}
use Rattle.mill_base.specs.Numbers.{Within}
use Rattle.mill_base.proofs.Machine.{stored, kept}
use Rattle.mill_contact_cone.specs.declared.corner.Cone.{Cone}
use Rattle.mill_contact_cone.specs.declared.corner.Corner.{Corner}
use Rattle.mill_geom.specs.Widths.{farthest, widest, most_lift}
use Rattle.mill_contact_cone.specs.Cones.{IsCone, CornerInRange}
use Rattle.mill_contact_cone.proofs.Sizes.{radius_within}

pub kept_in : (w : Width) (m : ℕ) (z : ℤ) → Within m z → ltb m (2 ^ hbits w) ≡ true → stored w z ≡ z
kept_in w m z h fits = kept w z m h.within fits

pub radius_kept : (k : Cone) → IsCone k → stored w64 k.radius ≡ k.radius
radius_kept k h = kept w64 k.radius widest (radius_within k h) refl

-- a corner's numbers
module _ (p : Corner) (h : CornerInRange p) where
  pub x_kept : stored w64 p.x ≡ p.x
  x_kept = kept_in w64 farthest p.x h.x_ok refl

  pub z_kept : stored w64 p.z ≡ p.z
  z_kept = kept_in w64 farthest p.z h.z_ok refl

  pub over_kept : stored w64 p.over ≡ p.over
  over_kept = kept_in w64 most_lift p.over h.over_ok refl

  opposite_small : nat_abs (pos 0 -ℤ p.over) ≤ most_lift
  opposite_small = small p.over h.over_ok.within
    where
      small : (x : ℤ) → nat_abs x ≤ most_lift → nat_abs (pos 0 -ℤ x) ≤ most_lift
      small x k = omega (arith, ints)

  -- how far the corner is under the height of the rim, as it is stored
  pub under_kept : stored w64 (pos 0 -ℤ stored w64 p.over) ≡ pos 0 -ℤ p.over
  under_kept = ap (λ t. stored w64 (pos 0 -ℤ t)) over_kept ∙ kept w64 (pos 0 -ℤ p.over) most_lift opposite_small refl

  pub under_within : Within most_lift (stored w64 (pos 0 -ℤ stored w64 p.over))
  under_within = record { within = subst (λ t. nat_abs t ≤ most_lift) (sym under_kept) opposite_small }
