use Rattle.std.proofs.Common.{◌≡◌, ◌-ℤ◌, refl, w32, FitsSigned}
use Rattle.std.specs.Prelude.{nat_abs}
use Rattle.std.proofs.lemmas.Int.{to_z-of_z}
use Rattle.mill_base.proofs.NodeLemmas.{length-positions}
use Rattle.mill_base.proofs.lattice.positions.Goals as goal

pub returns-clause-value : goal.returns-clause-value
returns-clause-value c =
    let fits_first : FitsSigned w32 c.args.first = c.ranges.first in
    let fits_last : FitsSigned w32 c.args.last = c.ranges.last in
    let fits_step : FitsSigned w32 c.args.step = c.ranges.step in
    let span : c.abs_diff-length.result ≡ nat_abs (c.args.last -ℤ c.args.first) = simp to_z-of_z at c.abs_diff-length.ensures in
    let step : c.unsigned_abs.result ≡ nat_abs c.args.step = simp to_z-of_z at c.unsigned_abs.ensures.value in
    rw (length-positions c.args.first c.args.last c.args.step, c.div_ceil.ensures, span, step) refl
