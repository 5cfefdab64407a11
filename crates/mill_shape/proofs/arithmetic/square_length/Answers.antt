use Rattle.std.proofs.Common.{◌≡◌, ◌∙◌, ℕ, List, [], ◌∷◌, refl, w64, FitsSigned}
use Rattle.std.proofs.lemmas.Int.{to_z-of_z}
use mir.Syntax.{w128}
use Rattle.mill_base.proofs.Machine.{X, Read, Sum, exact, stays}
use Rattle.mill_base.specs.Numbers.{square}
use Rattle.mill_shape.specs.Widths.{square_width, sum_width}
use Rattle.mill_shape.proofs.arithmetic.square_length.Goals as goal

-- how far each square is from 0
bounds : List ℕ
bounds = square_width ∷ square_width ∷ square_width ∷ []

-- the sum of the three squares
whole : X
whole = Sum w128 (Sum w128 (Read w128 0) (Read w128 1)) (Read w128 2)

pub returns-clause-value : goal.returns-clause-value
unfolding bounds whole
returns-clause-value c =
    let fits_x : FitsSigned w64 c.args.x = c.ranges.x in
    let fits_y : FitsSigned w64 c.args.y = c.ranges.y in
    let fits_z : FitsSigned w64 c.args.z = c.ranges.z in
    let x : c.square.result ≡ square c.args.x = simp to_z-of_z at c.square.ensures.value in
    let y : c.square-2.result ≡ square c.args.y = simp to_z-of_z at c.square-2.ensures.value in
    let z : c.square-3.result ≡ square c.args.z = simp to_z-of_z at c.square-3.ensures.value in
    exact (c.square.result ∷ c.square-2.result ∷ c.square-3.result ∷ []) bounds whole (c.square.ensures.bound.within, (c.square-2.ensures.bound.within, (c.square-3.ensures.bound.within, tt))) refl ∙ rw (x, y, z) refl

pub returns-clause-bound : goal.returns-clause-bound
unfolding bounds whole
returns-clause-bound c =
    record { within = stays (c.square.result ∷ c.square-2.result ∷ c.square-3.result ∷ []) bounds whole sum_width (c.square.ensures.bound.within, (c.square-2.ensures.bound.within, (c.square-3.ensures.bound.within, tt))) refl }
