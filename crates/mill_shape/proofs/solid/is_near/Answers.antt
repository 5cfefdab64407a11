use Rattle.std.proofs.Common.{◌≡◌, ◌∙◌, ◌+ℤ◌, ◌*ℤ◌, ap, refl, w32, w64, FitsSigned}
use Rattle.std.proofs.lemmas.Int.{to_z-of_z}
use Rattle.mill_base.proofs.Machine.{kept}
use Rattle.mill_base.specs.Numbers.{square}
use Rattle.mill_shape.specs.Widths.{reach_width, square_width, sum_width}
use Rattle.mill_shape.proofs.Stored.{less_yes, less_no}
use Rattle.mill_shape.proofs.Insides.{reach_square, less_is, at_most_is}
use Rattle.mill_shape.proofs.solid.is_near.Goals as goal

pub returns-clause-yes : goal.returns-clause-yes
returns-clause-yes c = λ h.
    let fits_r : FitsSigned w32 c.args.radius = c.ranges.radius in
    let fits_n : FitsSigned w64 c.args.n = c.ranges.n in
    let fits_x : FitsSigned w64 c.args.x = c.ranges.x in
    let fits_y : FitsSigned w64 c.args.y = c.ranges.y in
    let flat : c.square_sum.result ≡ square c.args.x +ℤ square c.args.y = simp to_z-of_z at c.square_sum.ensures.value in
    let reach : c.reach.result ≡ c.args.radius *ℤ c.args.n = simp to_z-of_z at c.reach.ensures.value in
    let far : c.square.result ≡ square c.args.radius *ℤ square c.args.n = c.square.ensures.value ∙ ap square (kept w64 c.reach.result reach_width c.reach.ensures.bound.within refl) ∙ reach_square c.reach.result c.args.radius c.args.n reach in
    less_is c.square_sum.result c.square.result _ _ flat far (less_yes c.square_sum.result c.square.result sum_width square_width c.square_sum.ensures.bound c.square.ensures.bound refl refl h)

pub returns-clause-no : goal.returns-clause-no
returns-clause-no c = λ h.
    let fits_r : FitsSigned w32 c.args.radius = c.ranges.radius in
    let fits_n : FitsSigned w64 c.args.n = c.ranges.n in
    let fits_x : FitsSigned w64 c.args.x = c.ranges.x in
    let fits_y : FitsSigned w64 c.args.y = c.ranges.y in
    let flat : c.square_sum.result ≡ square c.args.x +ℤ square c.args.y = simp to_z-of_z at c.square_sum.ensures.value in
    let reach : c.reach.result ≡ c.args.radius *ℤ c.args.n = simp to_z-of_z at c.reach.ensures.value in
    let far : c.square.result ≡ square c.args.radius *ℤ square c.args.n = c.square.ensures.value ∙ ap square (kept w64 c.reach.result reach_width c.reach.ensures.bound.within refl) ∙ reach_square c.reach.result c.args.radius c.args.n reach in
    at_most_is c.square.result c.square_sum.result _ _ far flat (less_no c.square_sum.result c.square.result sum_width square_width c.square_sum.ensures.bound c.square.ensures.bound refl refl h)
