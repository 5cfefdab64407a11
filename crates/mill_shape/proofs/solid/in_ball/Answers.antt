use Rattle.std.proofs.Common.{◌≡◌, ◌+ℤ◌, ◌-ℤ◌, ◌*ℤ◌, ◌<ℤ◌, ◌≤ℤ◌, refl, w32, w64, FitsSigned}
use Rattle.std.proofs.lemmas.Int.{to_z-of_z}
use Rattle.mill_base.proofs.Machine.{kept}
use Rattle.mill_base.specs.Numbers.{square}
use Rattle.mill_shape.specs.Widths.{length_width}
use Rattle.mill_shape.proofs.Stored.{negative, not_negative}
use Rattle.mill_shape.proofs.Insides.{ball_high_yes, ball_high_no, ball_deep_yes, ball_deep_no}
use Rattle.mill_shape.proofs.solid.in_ball.Goals as goal

pub returns-then-height-ge0-clause-yes : goal.returns-then-height-ge0-clause-yes
returns-then-height-ge0-clause-yes c = λ h.
    let fits_r : FitsSigned w32 c.args.radius = c.ranges.radius in
    let fits_n : FitsSigned w64 c.args.n = c.ranges.n in
    let fits_x : FitsSigned w64 c.args.x = c.ranges.x in
    let fits_y : FitsSigned w64 c.args.y = c.ranges.y in
    let fits_z : FitsSigned w64 c.args.z = c.ranges.z in
    let height : c.over_centre-height.result ≡ c.args.z -ℤ c.args.radius *ℤ c.args.n = simp to_z-of_z at c.over_centre-height.ensures.value in
    let near : (square c.args.x +ℤ square c.args.y) <ℤ (square c.args.radius *ℤ square c.args.n) = simp to_z-of_z at (c.is_near.ensures.yes h) in
    ball_high_yes c.args.radius c.args.n c.args.x c.args.y c.args.z c.over_centre-height.result height (not_negative c.over_centre-height.result c.over_centre-height.ensures.bound c.if-height-ge0.true) near

pub returns-then-height-ge0-clause-no : goal.returns-then-height-ge0-clause-no
returns-then-height-ge0-clause-no c = λ h.
    let fits_r : FitsSigned w32 c.args.radius = c.ranges.radius in
    let fits_n : FitsSigned w64 c.args.n = c.ranges.n in
    let fits_x : FitsSigned w64 c.args.x = c.ranges.x in
    let fits_y : FitsSigned w64 c.args.y = c.ranges.y in
    let far : (square c.args.radius *ℤ square c.args.n) ≤ℤ (square c.args.x +ℤ square c.args.y) = simp to_z-of_z at (c.is_near.ensures.no h) in
    ball_high_no c.args.radius c.args.n c.args.x c.args.y c.args.z far

pub returns-clause-yes : goal.returns-clause-yes
returns-clause-yes c = λ h.
    let fits_r : FitsSigned w32 c.args.radius = c.ranges.radius in
    let fits_n : FitsSigned w64 c.args.n = c.ranges.n in
    let fits_x : FitsSigned w64 c.args.x = c.ranges.x in
    let fits_y : FitsSigned w64 c.args.y = c.ranges.y in
    let fits_z : FitsSigned w64 c.args.z = c.ranges.z in
    let height : c.over_centre-height.result ≡ c.args.z -ℤ c.args.radius *ℤ c.args.n = simp to_z-of_z at c.over_centre-height.ensures.value in
    let fits_h = kept w64 c.over_centre-height.result length_width c.over_centre-height.ensures.bound.within refl in
    let deep : ((square c.args.x +ℤ square c.args.y) +ℤ square c.over_centre-height.result) <ℤ (square c.args.radius *ℤ square c.args.n) = simp to_z-of_z at (rw fits_h at (c.in_sphere.ensures.yes h)) in
    ball_deep_yes c.args.radius c.args.n c.args.x c.args.y c.args.z c.over_centre-height.result height deep

pub returns-clause-no : goal.returns-clause-no
returns-clause-no c = λ h.
    let fits_r : FitsSigned w32 c.args.radius = c.ranges.radius in
    let fits_n : FitsSigned w64 c.args.n = c.ranges.n in
    let fits_x : FitsSigned w64 c.args.x = c.ranges.x in
    let fits_y : FitsSigned w64 c.args.y = c.ranges.y in
    let fits_z : FitsSigned w64 c.args.z = c.ranges.z in
    let height : c.over_centre-height.result ≡ c.args.z -ℤ c.args.radius *ℤ c.args.n = simp to_z-of_z at c.over_centre-height.ensures.value in
    let fits_h = kept w64 c.over_centre-height.result length_width c.over_centre-height.ensures.bound.within refl in
    let far : (square c.args.radius *ℤ square c.args.n) ≤ℤ ((square c.args.x +ℤ square c.args.y) +ℤ square c.over_centre-height.result) = simp to_z-of_z at (rw fits_h at (c.in_sphere.ensures.no h)) in
    ball_deep_no c.args.radius c.args.n c.args.x c.args.y c.args.z c.over_centre-height.result height (negative c.over_centre-height.result c.over_centre-height.ensures.bound c.if-height-ge0.false) far
