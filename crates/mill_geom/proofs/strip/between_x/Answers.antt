use Rattle.std.proofs.Common.{refl}
use mir.Syntax.{w128}
use Rattle.mill_base.proofs.Machine.{kept}
use Rattle.mill_geom.specs.Widths.{most_area, most_mixed_place}
use Rattle.mill_geom.proofs.Strips.{low_between, high_between, mixed_between}
use Rattle.mill_geom.proofs.Kept.{radius_kept, area_kept}
use Rattle.mill_geom.proofs.strip.between_x.Goals as goal

pub returns-then-is_above-clause-between : goal.returns-then-is_above-clause-between
returns-then-is_above-clause-between c =
    let r = radius_kept c.args.radius c.requires.r_ok in
    let x = area_kept c.args.low.x c.requires.low_ok.x_ok in
    let wide = kept w128 c.args.low.x most_area c.requires.low_ok.x_ok.within refl in
    rw (x, wide) (low_between c.args.radius c.args.low c.args.high c.requires.low_under (rw r at (c.is_above.ensures.yes c.if-is_above.true)))

pub returns-then-is_above-2-clause-between : goal.returns-then-is_above-2-clause-between
returns-then-is_above-2-clause-between c =
    let r = radius_kept c.args.radius c.requires.r_ok in
    let x = area_kept c.args.high.x c.requires.high_ok.x_ok in
    let wide = kept w128 c.args.high.x most_area c.requires.high_ok.x_ok.within refl in
    rw (x, wide) (high_between c.args.radius c.args.low c.args.high c.requires.high_under (rw r at (c.is_above-2.ensures.yes c.if-is_above-2.true)))

pub returns-clause-between : goal.returns-clause-between
returns-clause-between c =
    let r = radius_kept c.args.radius c.requires.r_ok in
    let wide = kept w128 c.mixed_x.result most_mixed_place c.mixed_x.ensures.bound.within refl in
    rw wide (mixed_between c.args.radius c.args.low c.args.high c.mixed_x.result c.requires.r_least c.requires.low_under c.requires.high_under
    (rw r at (c.is_above.ensures.no c.if-is_above.false)) (rw r at (c.is_above-2.ensures.no c.if-is_above-2.false)) c.mixed_x.ensures.value)
