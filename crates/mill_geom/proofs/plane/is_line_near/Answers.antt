use Rattle.std.proofs.Common.{refl, w64}
use mir.Syntax.{w128}
use Rattle.mill_geom.proofs.Kept.{kept_in, radius_kept, area_kept, lift_kept}
use Rattle.mill_geom.proofs.Signs.{near_as}
use Rattle.mill_geom.proofs.Volumes.{volume_as}
use Rattle.mill_geom.proofs.plane.is_line_near.Goals as goal

pub returns : goal.returns
returns c =
    let i = area_kept c.cross-i.result c.cross-i.ensures.bound in
    let j = area_kept c.cross-j.result c.cross-j.ensures.bound in
    let k = area_kept c.cross-k.result c.cross-k.ensures.bound in
    let a = lift_kept c.args.a.z c.requires.a_ok.z_ok in
    let b = lift_kept c.args.b.z c.requires.b_ok.z_ok in
    let d = lift_kept c.args.c.z c.requires.c_ok.z_ok in
    let v = kept_in w128 _ _ c.weighted-volume.ensures.bound refl in
    let x = kept_in w64 _ _ c.slope_x-x.ensures.bound refl in
    let y = kept_in w64 _ _ c.slope_y-y.ensures.bound refl in
    let r = radius_kept c.args.radius c.requires.r_ok in
    near_as c.args.radius c.weighted-volume.result c.slope_x-x.result c.slope_y-y.result c.args.a c.args.b c.args.c
    (volume_as _ _ _ _ c.args.a c.args.b c.args.c (rw (i, j, k, a, b, d) at c.weighted-volume.ensures.value) c.cross-i.ensures.value c.cross-j.ensures.value c.cross-k.ensures.value)
    c.slope_x-x.ensures.value c.slope_y-y.ensures.value (rw (v, x, y, r) at c.is_near.ensures)
