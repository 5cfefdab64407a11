use Rattle.std.proofs.Common.{◌≡◌, ◌≤ℤ◌, arith, false, rules, w32}
use Rattle.std.specs.Int.Signed.{lt_z, lt_z_no}
use Rattle.std.specs.Prelude.{FitsSigned}
use Rattle.std.proofs.lemmas.Int.{ints, to_z-of_z}
use Rattle.mill_load.proofs.load.height_over.Goals as goal

pub returns-in_default : goal.returns-in_default
returns-in_default c =
    let height_fits : FitsSigned w32 c.in-Some.height = search rules in
    let top_fits : FitsSigned w32 c.args.job.now.fields.top = search rules in
    let flag : lt_z c.args.job.now.fields.top c.in-Some.height ≡ false = simp to_z-of_z at c.if-height-job.false in
    let within : c.in-Some.height ≤ℤ c.args.job.now.fields.top = lt_z_no (rw flag tt) in
    λ tri member.
    let corners = c.in-Some.ensures.greatest.under tri member in
    (omega (corners.0, within, arith, ints), omega (corners.1, within, arith, ints), omega (corners.2, within, arith, ints))
