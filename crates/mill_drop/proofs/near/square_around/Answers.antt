use Rattle.std.proofs.Common.{◌<◌, FitsSigned, rules, refl, w32, arith}
use Rattle.std.specs.Prelude.{nat_abs}
use Rattle.std.proofs.lemmas.Int.{ints, to_z-of_z, fits_signed_from_abs}
use lib.IntN.{ℤ, ◌+ℤ◌, ◌-ℤ◌}
use Rattle.mill_base.specs.Numbers.{Within}
use Rattle.mill_base.specs.declared.limits.TheConstants.{MAX_COORDINATE, MAX_RADIUS}
use Rattle.mill_base.specs.Sizes.{HasRadius, IsCutter, radius_of}
use Rattle.mill_base.specs.declared.cutter.Cutter.{Cutter}
use Rattle.mill_base.specs.declared.cutter.Cutter.TheVariants.{Flat, Ball, Cone}
use Rattle.mill_drop.proofs.near.square_around.Goals as goal

sized : (cutter : Cutter) → IsCutter cutter → HasRadius (radius_of cutter) MAX_RADIUS
sized (Flat r) h = h
sized (Ball r) h = h
sized (Cone r a b) h = h.0

less_fits : (x r : ℤ) → Within MAX_COORDINATE x → HasRadius r MAX_RADIUS → FitsSigned w32 (x -ℤ r)
less_fits x r h k = fits_signed_from_abs w32 (x -ℤ r) small
  where
    small : nat_abs (x -ℤ r) < 2147483648
    small = let a = h.within in let b = k.least in let d = k.within in omega (arith, ints)

more_fits : (x r : ℤ) → Within MAX_COORDINATE x → HasRadius r MAX_RADIUS → FitsSigned w32 (x +ℤ r)
more_fits x r h k = fits_signed_from_abs w32 (x +ℤ r) small
  where
    small : nat_abs (x +ℤ r) < 2147483648
    small = let a = h.within in let b = k.least in let d = k.within in omega (arith, ints)

pub returns : goal.returns
returns c =
    let fits : FitsSigned w32 c.radius-radius.result = search rules in
    let radius = sized c.args.cutter c.requires.cutter_ok in
    rw (
      to_z-of_z w32 c.args.x c.ranges.x,
      to_z-of_z w32 c.args.y c.ranges.y,
      to_z-of_z w32 c.radius-radius.result fits,
      c.radius-radius.ensures,
      to_z-of_z w32 _ (less_fits c.args.x (radius_of c.args.cutter) c.requires.x_ok radius),
      to_z-of_z w32 _ (less_fits c.args.y (radius_of c.args.cutter) c.requires.y_ok radius),
      to_z-of_z w32 _ (more_fits c.args.x (radius_of c.args.cutter) c.requires.x_ok radius),
      to_z-of_z w32 _ (more_fits c.args.y (radius_of c.args.cutter) c.requires.y_ok radius),
    ) refl
