-- Numbers in range keep their value in the machine's words.
use Rattle.std.proofs.Common.{◌≡◌, ℕ, ◌<◌, w64, FitsSigned, to_z, arith}
use Rattle.std.specs.Prelude.{◌^◌, ℤ, pos}
use Rattle.std.proofs.lemmas.Int.{ints}
use mir.Syntax.{w128}
use Rattle.mill_base.specs.Numbers.{Within}

pub fits_wide : (z : ℤ) → Within (2 ^ 81) z → FitsSigned w128 z
fits_wide z h = let b : Within 2417851639229258349412352 z = h in let c = b.within in omega (arith, ints)

pub stored_root : (r : ℕ) → r < 2 ^ 32 → to_z w64 r ≡ pos r
stored_root r h = omega (arith, ints)
