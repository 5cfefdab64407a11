use Rattle.std.proofs.Common.{◌≡◌, pos, false, get_or, refl, w64, IsTrue}
use Rattle.std.proofs.lemmas.Int.{to_z-of_z}
use Rattle.mill_base.proofs.Machine.{kept}
use Rattle.mill_base.specs.Cutters.{InFlat, InBall, InCone}
use Rattle.mill_base.specs.Sizes.{HasRadius, IsSlope}
use Rattle.mill_base.specs.declared.limits.TheConstants.{MAX_WIDE_RADIUS}
use Rattle.mill_shape.specs.Widths.{greatest_numerator}
use Rattle.mill_shape.specs.Offsets.{offset_of}
use Rattle.mill_shape.proofs.Stored.{radius_kept, rise_kept, run_kept}
use Rattle.mill_shape.proofs.Insides.{decides}
use Rattle.mill_shape.proofs.solid.inside.Goals as goal

pub returns-in-Flat : goal.returns-in-Flat
returns-in-Flat c =
    let size : HasRadius c.in-Flat.radius MAX_WIDE_RADIUS = rw c.in-Flat.is at c.requires.cutter_ok in
    let keep_r = radius_kept c.in-Flat.radius size in
    let keep_n = to_z-of_z w64 c.args.n c.ranges.n in
    let keep_x = kept w64 (get_or c.args.d 0 (pos 0)) greatest_numerator c.requires.x_ok.within refl in
    let keep_y = kept w64 (get_or c.args.d 1 (pos 0)) greatest_numerator c.requires.y_ok.within refl in
    let keep_z = kept w64 (get_or c.args.d 2 (pos 0)) greatest_numerator c.requires.z_ok.within refl in
    let sound : IsTrue c.in_flat.result → InFlat c.in-Flat.radius c.args.n (offset_of c.args.d) = rw (keep_r, keep_n, keep_x, keep_y, keep_z) at c.in_flat.ensures.yes in
    let complete : c.in_flat.result ≡ false → InFlat c.in-Flat.radius c.args.n (offset_of c.args.d) → ⊥ = rw (keep_r, keep_n, keep_x, keep_y, keep_z) at c.in_flat.ensures.no in
    rw c.in-Flat.is (decides c.in_flat.result (InFlat c.in-Flat.radius c.args.n (offset_of c.args.d)) sound complete)

pub returns-in-Ball : goal.returns-in-Ball
returns-in-Ball c =
    let size : HasRadius c.in-Ball.radius MAX_WIDE_RADIUS = rw c.in-Ball.is at c.requires.cutter_ok in
    let keep_r = radius_kept c.in-Ball.radius size in
    let keep_n = to_z-of_z w64 c.args.n c.ranges.n in
    let keep_x = kept w64 (get_or c.args.d 0 (pos 0)) greatest_numerator c.requires.x_ok.within refl in
    let keep_y = kept w64 (get_or c.args.d 1 (pos 0)) greatest_numerator c.requires.y_ok.within refl in
    let keep_z = kept w64 (get_or c.args.d 2 (pos 0)) greatest_numerator c.requires.z_ok.within refl in
    let sound : IsTrue c.in_ball.result → InBall c.in-Ball.radius c.args.n (offset_of c.args.d) = rw (keep_r, keep_n, keep_x, keep_y, keep_z) at c.in_ball.ensures.yes in
    let complete : c.in_ball.result ≡ false → InBall c.in-Ball.radius c.args.n (offset_of c.args.d) → ⊥ = rw (keep_r, keep_n, keep_x, keep_y, keep_z) at c.in_ball.ensures.no in
    rw c.in-Ball.is (decides c.in_ball.result (InBall c.in-Ball.radius c.args.n (offset_of c.args.d)) sound complete)

pub returns-in-Cone : goal.returns-in-Cone
returns-in-Cone c =
    let sizes : HasRadius c.in-Cone.radius MAX_WIDE_RADIUS × IsSlope c.in-Cone.rise c.in-Cone.run' = rw c.in-Cone.is at c.requires.cutter_ok in
    let keep_r = radius_kept c.in-Cone.radius sizes.0 in
    let keep_a = rise_kept c.in-Cone.rise c.in-Cone.run' sizes.1 in
    let keep_b = run_kept c.in-Cone.rise c.in-Cone.run' sizes.1 in
    let keep_n = to_z-of_z w64 c.args.n c.ranges.n in
    let keep_x = kept w64 (get_or c.args.d 0 (pos 0)) greatest_numerator c.requires.x_ok.within refl in
    let keep_y = kept w64 (get_or c.args.d 1 (pos 0)) greatest_numerator c.requires.y_ok.within refl in
    let keep_z = kept w64 (get_or c.args.d 2 (pos 0)) greatest_numerator c.requires.z_ok.within refl in
    let sound : IsTrue c.in_cone.result → InCone c.in-Cone.radius c.in-Cone.rise c.in-Cone.run' c.args.n (offset_of c.args.d) = rw (keep_r, keep_a, keep_b, keep_n, keep_x, keep_y, keep_z) at c.in_cone.ensures.yes in
    let complete : c.in_cone.result ≡ false → InCone c.in-Cone.radius c.in-Cone.rise c.in-Cone.run' c.args.n (offset_of c.args.d) → ⊥ = rw (keep_r, keep_a, keep_b, keep_n, keep_x, keep_y, keep_z) at c.in_cone.ensures.no in
    rw c.in-Cone.is (decides c.in_cone.result (InCone c.in-Cone.radius c.in-Cone.rise c.in-Cone.run' c.args.n (offset_of c.args.d)) sound complete)
