use Rattle.std.proofs.Common.{◌≡◌, refl, ap, ◌∙◌, rules, w32, w64, to_z, of_z}
use mir.Syntax.{w128}
use Rattle.mill_base.proofs.Machine.{kept}
use Rattle.mill_base.proofs.Ranges.{coordinate, within_of_unit}
use Rattle.mill_base.specs.Numbers.{Within}
use Rattle.mill_base.specs.Units.{greatest_of}
use Rattle.mill_base.specs.declared.limits.TheConstants.{MAX_COORDINATE}
use Rattle.mill_control.specs.Lengths.{rounded}
use Rattle.mill_block.specs.MachineSettings.{per_of}
use Rattle.mill_block.proofs.ArcNumbers.{coordinate_by, offset_within}
use Rattle.mill_block.proofs.progress.Progress.offset_coordinate.Goals as goal

pub returns-clause-text : goal.returns-clause-text
returns-clause-text c =
    let per = per_of c.args.self.now in
    let z = rounded per c.args.num in
    let unit = c.args.self.now.unit in
    let within : Within MAX_COORDINATE z = within_of_unit unit z (offset_within per (greatest_of unit) c.args.num c.requires.fits) in
    let is : c.rounded.result ≡ z = search rules in
    let wide : to_z w128 (of_z w128 z) ≡ z = kept w128 z 524287 within.within refl in
    let units : to_z w32 (of_z w32 (to_z w128 (of_z w128 c.rounded.result))) ≡ z =
    ap (λ t. to_z w32 (of_z w32 (to_z w128 (of_z w128 t)))) is ∙ ap (λ t. to_z w32 (of_z w32 t)) wide ∙ coordinate z within in
    coordinate_by per c.args.num (to_z w32 (of_z w32 (to_z w128 (of_z w128 c.rounded.result)))) (to_z w64 (of_z w64 c.finer.result)) units (search rules)
