use Rattle.std.proofs.Common.{◌≡◌, ◌∙◌, ◌*◌, w32, FitsSigned, arith}
use Rattle.std.specs.Prelude.{nat_abs}
use Rattle.std.specs.Int.{div_ceil}
use Rattle.std.proofs.lemmas.Int.{to_z-of_z, to_z_pos}
use Rattle.mill_shape.proofs.Resizing.{rise_is, rise_most}
use Rattle.mill_shape.proofs.resize.rise_over.Goals as goal

pub returns-clause-value : goal.returns-clause-value
returns-clause-value c =
    let fits_reach : FitsSigned w32 c.args.reach = c.ranges.reach in
    let fits_rise : FitsSigned w32 c.args.rise = c.ranges.rise in
    let fits_run : FitsSigned w32 c.args.run = c.ranges.run in
    let reach : c.unsigned_abs.result ≡ nat_abs c.args.reach = simp to_z-of_z at c.unsigned_abs.ensures.value in
    let rise : c.unsigned_abs-2.result ≡ nat_abs c.args.rise = simp to_z-of_z at c.unsigned_abs-2.ensures.value in
    let along : c.unsigned_abs-3.result ≡ nat_abs c.args.run = simp to_z-of_z at c.unsigned_abs-3.ensures.value in
    let whole : c.div_ceil.result ≡ div_ceil (nat_abs c.args.reach * nat_abs c.args.rise) (nat_abs c.args.run) = rw (reach, rise, along) at c.div_ceil.ensures in
    let most = rise_most c.args.reach c.args.rise c.args.run c.div_ceil.result c.requires.reach_least c.requires.reach_most c.requires.slope_ok whole in
    let small = most.0 in
    to_z_pos w32 c.div_ceil.result (omega arith) ∙ rise_is c.args.reach c.args.rise c.args.run c.div_ceil.result c.requires.reach_least c.requires.slope_ok whole

pub returns-clause-most : goal.returns-clause-most
returns-clause-most c =
    let fits_reach : FitsSigned w32 c.args.reach = c.ranges.reach in
    let fits_rise : FitsSigned w32 c.args.rise = c.ranges.rise in
    let fits_run : FitsSigned w32 c.args.run = c.ranges.run in
    let reach : c.unsigned_abs.result ≡ nat_abs c.args.reach = simp to_z-of_z at c.unsigned_abs.ensures.value in
    let rise : c.unsigned_abs-2.result ≡ nat_abs c.args.rise = simp to_z-of_z at c.unsigned_abs-2.ensures.value in
    let along : c.unsigned_abs-3.result ≡ nat_abs c.args.run = simp to_z-of_z at c.unsigned_abs-3.ensures.value in
    let whole : c.div_ceil.result ≡ div_ceil (nat_abs c.args.reach * nat_abs c.args.rise) (nat_abs c.args.run) = rw (reach, rise, along) at c.div_ceil.ensures in
    let most = rise_most c.args.reach c.args.rise c.args.run c.div_ceil.result c.requires.reach_least c.requires.reach_most c.requires.slope_ok whole in
    let small = most.0 in
    rw (to_z_pos w32 c.div_ceil.result (omega arith)) most.1
