use Rattle.std.proofs.Common.{◌≡◌, ◌+ℤ◌, ◌*ℤ◌, refl, w32, w64, FitsSigned}
use Rattle.std.proofs.lemmas.Int.{to_z-of_z}
use mir.Syntax.{w128}
use Rattle.mill_base.proofs.Machine.{kept}
use Rattle.mill_base.specs.Numbers.{square}
use Rattle.mill_shape.specs.Widths.{square_width, sum_width, wall_width}
use Rattle.mill_shape.proofs.Stored.{less_yes, less_no}
use Rattle.mill_shape.proofs.Insides.{less_is, at_most_is}
use Rattle.mill_shape.proofs.solid.is_over_wall.Goals as goal

pub returns-clause-yes : goal.returns-clause-yes
returns-clause-yes c = λ h.
    let fits_a : FitsSigned w32 c.args.rise = c.ranges.rise in
    let fits_b : FitsSigned w32 c.args.run = c.ranges.run in
    let fits_x : FitsSigned w64 c.args.x = c.ranges.x in
    let fits_y : FitsSigned w64 c.args.y = c.ranges.y in
    let fits_z : FitsSigned w64 c.args.z = c.ranges.z in
    let flat : c.square_sum.result ≡ square c.args.x +ℤ square c.args.y = simp to_z-of_z at c.square_sum.ensures.value in
    let up : c.square.result ≡ square c.args.z = simp to_z-of_z at c.square.ensures.value in
    let fits_flat = kept w128 c.square_sum.result sum_width c.square_sum.ensures.bound.within refl in
    let fits_up = kept w128 c.square.result square_width c.square.ensures.bound.within refl in
    let left : c.times_square.result ≡ square c.args.rise *ℤ (square c.args.x +ℤ square c.args.y) = simp (to_z-of_z, flat) at (rw fits_flat at c.times_square.ensures.value) in
    let right : c.times_square-2.result ≡ square c.args.run *ℤ square c.args.z = simp (to_z-of_z, up) at (rw fits_up at c.times_square-2.ensures.value) in
    less_is c.times_square.result c.times_square-2.result _ _ left right (less_yes c.times_square.result c.times_square-2.result wall_width wall_width c.times_square.ensures.bound c.times_square-2.ensures.bound refl refl h)

pub returns-clause-no : goal.returns-clause-no
returns-clause-no c = λ h.
    let fits_a : FitsSigned w32 c.args.rise = c.ranges.rise in
    let fits_b : FitsSigned w32 c.args.run = c.ranges.run in
    let fits_x : FitsSigned w64 c.args.x = c.ranges.x in
    let fits_y : FitsSigned w64 c.args.y = c.ranges.y in
    let fits_z : FitsSigned w64 c.args.z = c.ranges.z in
    let flat : c.square_sum.result ≡ square c.args.x +ℤ square c.args.y = simp to_z-of_z at c.square_sum.ensures.value in
    let up : c.square.result ≡ square c.args.z = simp to_z-of_z at c.square.ensures.value in
    let fits_flat = kept w128 c.square_sum.result sum_width c.square_sum.ensures.bound.within refl in
    let fits_up = kept w128 c.square.result square_width c.square.ensures.bound.within refl in
    let left : c.times_square.result ≡ square c.args.rise *ℤ (square c.args.x +ℤ square c.args.y) = simp (to_z-of_z, flat) at (rw fits_flat at c.times_square.ensures.value) in
    let right : c.times_square-2.result ≡ square c.args.run *ℤ square c.args.z = simp (to_z-of_z, up) at (rw fits_up at c.times_square-2.ensures.value) in
    at_most_is c.times_square-2.result c.times_square.result _ _ right left (less_no c.times_square.result c.times_square-2.result wall_width wall_width c.times_square.ensures.bound c.times_square-2.ensures.bound refl refl h)
