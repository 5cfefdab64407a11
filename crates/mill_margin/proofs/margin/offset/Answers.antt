use Rattle.std.proofs.Common.{◌≡◌, ◌∙◌, ◌*ℤ◌, ◌≤ℤ◌, pos, w32}
use Rattle.std.proofs.lemmas.Int.{to_z-of_z}
use Rattle.mill_base.specs.Sizes.{HasRadius, IsSlope}
use Rattle.mill_base.specs.declared.limits.TheConstants.{MAX_RADIUS}
use Rattle.mill_margin.specs.Margins.{cone_offset_of}
use Rattle.mill_margin.proofs.Sizing.{rise_kept, run_kept, offset_kept}
use Rattle.mill_margin.proofs.margin.offset.Goals as goal

pub returns-in-Cone-clause-value : goal.returns-in-Cone-clause-value
returns-in-Cone-clause-value c =
    let sizes : HasRadius c.in-Cone.radius MAX_RADIUS × IsSlope c.in-Cone.rise c.in-Cone.run' = rw c.in-Cone.is at c.requires.cutter_ok in
    let margin = to_z-of_z w32 c.args.margin c.ranges.margin in
    let value : c.cone_offset.result ≡ cone_offset_of c.in-Cone.rise c.in-Cone.run' c.args.margin = rw (rise_kept c.in-Cone.rise c.in-Cone.run' sizes.1, run_kept c.in-Cone.rise c.in-Cone.run' sizes.1, margin) at c.cone_offset.ensures.value in
    let least : c.args.margin ≤ℤ c.cone_offset.result = rw margin at c.cone_offset.ensures.least in
    let most : c.cone_offset.result ≤ℤ (pos 17 *ℤ c.args.margin) = rw margin at c.cone_offset.ensures.most in
    rw c.in-Cone.is (offset_kept c.cone_offset.result c.args.margin c.requires.margin_ok least most ∙ value)
