use Rattle.std.proofs.Common.{◌≡◌, ℕ, ◌*◌, ◌<◌, min, sym, FitsSigned, w32, arith}
use Rattle.std.specs.Prelude.{nat_abs}
use Rattle.std.proofs.lemmas.Int.{ints, to_z-of_z, to_z_pos, fits_signed_from_abs}
use lib.IntN.{ℤ, ◌-ℤ◌}
use Rattle.mill_base.specs.Numbers.{Within}
use Rattle.mill_base.specs.declared.limits.TheConstants.{MAX_COORDINATE}
use Rattle.mill_base.proofs.NodeLemmas.{get_or-positions, position_within}
use Rattle.mill_base.proofs.lattice.position.Goals as goal

small : (a b : ℤ) (n : ℕ) → Within MAX_COORDINATE a → Within MAX_COORDINATE b → min n (nat_abs (b -ℤ a)) < 2147483648
small a b n ha hb = let k = ha.within in let l = hb.within in omega (arith, ints)

fits : (z : ℤ) → Within MAX_COORDINATE z → FitsSigned w32 z
fits z h = fits_signed_from_abs w32 z (less z h)
  where
    less : (z : ℤ) → Within MAX_COORDINATE z → nat_abs z < 2147483648
    less z h = let k = h.within in omega (arith, ints)

pub returns-clause-value : goal.returns-clause-value
returns-clause-value c =
    let fits_first : FitsSigned w32 c.args.first = c.ranges.first in
    let fits_last : FitsSigned w32 c.args.last = c.ranges.last in
    let fits_step : FitsSigned w32 c.args.step = c.ranges.step in
    let span : c.abs_diff-length.result ≡ nat_abs (c.args.last -ℤ c.args.first) = simp to_z-of_z at c.abs_diff-length.ensures in
    let step : c.unsigned_abs.result ≡ nat_abs c.args.step = simp to_z-of_z at c.unsigned_abs.ensures.value in
    let n : ℕ = c.args.number * nat_abs c.args.step in
    let offset : c.min.result ≡ min n (nat_abs (c.args.last -ℤ c.args.first)) = rw (c.from.ensures, c.from-2.ensures, c.from-3.ensures, span, step) at c.min.ensures in
    let within = position_within c.args.first c.args.last n c.requires.first_ok c.requires.last_ok c.requires.order in
    rw (to_z-of_z w32 c.args.first fits_first, offset, to_z_pos w32 _ (small c.args.first c.args.last n c.requires.first_ok c.requires.last_ok), to_z-of_z w32 _ (fits _ within))
    (sym (get_or-positions c.args.first c.args.last c.args.step c.args.number c.requires.order c.requires.step_ok c.requires.number_ok))
