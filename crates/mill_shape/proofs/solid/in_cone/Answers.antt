use Rattle.std.proofs.Common.{◌+ℤ◌, ◌*ℤ◌, ◌<ℤ◌, ◌≤ℤ◌, w32, w64, FitsSigned}
use Rattle.std.proofs.lemmas.Int.{to_z-of_z}
use Rattle.mill_base.specs.Numbers.{square}
use Rattle.mill_base.specs.Points.{point_at}
use Rattle.mill_base.specs.Cutters.{InFlat}
use Rattle.mill_shape.proofs.Insides.{cone_no}
use Rattle.mill_shape.proofs.solid.in_cone.Goals as goal

pub returns-then-not-is_over_wall-clause-no : goal.returns-then-not-is_over_wall-clause-no
returns-then-not-is_over_wall-clause-no c = λ h.
    let fits_a : FitsSigned w32 c.args.rise = c.ranges.rise in
    let fits_b : FitsSigned w32 c.args.run = c.ranges.run in
    let fits_x : FitsSigned w64 c.args.x = c.ranges.x in
    let fits_y : FitsSigned w64 c.args.y = c.ranges.y in
    let fits_z : FitsSigned w64 c.args.z = c.ranges.z in
    let flat : (square c.args.run *ℤ square c.args.z) ≤ℤ (square c.args.rise *ℤ (square c.args.x +ℤ square c.args.y)) = simp to_z-of_z at (c.is_over_wall.ensures.no c.if-not-is_over_wall.true) in
    cone_no c.args.radius c.args.rise c.args.run c.args.n c.args.x c.args.y c.args.z flat

pub returns-clause-yes : goal.returns-clause-yes
returns-clause-yes c = λ h.
    let fits_r : FitsSigned w32 c.args.radius = c.ranges.radius in
    let fits_a : FitsSigned w32 c.args.rise = c.ranges.rise in
    let fits_b : FitsSigned w32 c.args.run = c.ranges.run in
    let fits_n : FitsSigned w64 c.args.n = c.ranges.n in
    let fits_x : FitsSigned w64 c.args.x = c.ranges.x in
    let fits_y : FitsSigned w64 c.args.y = c.ranges.y in
    let fits_z : FitsSigned w64 c.args.z = c.ranges.z in
    let flat : InFlat c.args.radius c.args.n (point_at c.args.x c.args.y c.args.z) = simp to_z-of_z at (c.in_flat.ensures.yes h) in
    let steep : (square c.args.rise *ℤ (square c.args.x +ℤ square c.args.y)) <ℤ (square c.args.run *ℤ square c.args.z) = simp to_z-of_z at (c.is_over_wall.ensures.yes c.if-not-is_over_wall.false) in
    record { near = flat.near; over = flat.over; steep = steep }

pub returns-clause-no : goal.returns-clause-no
returns-clause-no c = λ h i.
    let fits_r : FitsSigned w32 c.args.radius = c.ranges.radius in
    let fits_n : FitsSigned w64 c.args.n = c.ranges.n in
    let fits_x : FitsSigned w64 c.args.x = c.ranges.x in
    let fits_y : FitsSigned w64 c.args.y = c.ranges.y in
    let fits_z : FitsSigned w64 c.args.z = c.ranges.z in
    let out : InFlat c.args.radius c.args.n (point_at c.args.x c.args.y c.args.z) → ⊥ = simp to_z-of_z at (c.in_flat.ensures.no h) in
    out (record { near = i.near; over = i.over })
