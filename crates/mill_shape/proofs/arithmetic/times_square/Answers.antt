use Rattle.std.proofs.Common.{◌∙◌, ℕ, List, [], ◌∷◌, refl}
use mir.Syntax.{w128}
use Rattle.mill_base.proofs.Machine.{X, Read, Prod, exact, stays, prod_fits}
use Rattle.mill_shape.specs.Widths.{sum_width, wall_width}
use Rattle.mill_shape.proofs.Stored.{widened, widened_within}
use Rattle.mill_shape.proofs.arithmetic.times_square.Goals as goal

-- how far the factor, read twice, and s are from 0
bounds : List ℕ
bounds = 100 ∷ 100 ∷ sum_width ∷ []

-- the square of the factor, times s
whole : X
whole = Prod w128 (Prod w128 (Read w128 0) (Read w128 1)) (Read w128 2)

pub overflow_mul-result : goal.overflow_mul-result
unfolding bounds
overflow_mul-result c =
    let first = widened_within c.from.result c.args.factor c.from.ensures c.requires.factor_ok in
    let second = widened_within c.from-2.result c.args.factor c.from-2.ensures c.requires.factor_ok in
    prod_fits w128 (c.from.result ∷ c.from-2.result ∷ c.args.s ∷ []) bounds (Read w128 0) (Read w128 1) (first, (second, (c.requires.s_ok.within, tt))) refl

pub overflow_mul-result-2 : goal.overflow_mul-result-2
unfolding bounds
overflow_mul-result-2 c =
    let first = widened_within c.from.result c.args.factor c.from.ensures c.requires.factor_ok in
    let second = widened_within c.from-2.result c.args.factor c.from-2.ensures c.requires.factor_ok in
    prod_fits w128 (c.from.result ∷ c.from-2.result ∷ c.args.s ∷ []) bounds (Prod w128 (Read w128 0) (Read w128 1)) (Read w128 2) (first, (second, (c.requires.s_ok.within, tt))) refl

pub returns-clause-value : goal.returns-clause-value
unfolding bounds whole
returns-clause-value c =
    let first = widened_within c.from.result c.args.factor c.from.ensures c.requires.factor_ok in
    let second = widened_within c.from-2.result c.args.factor c.from-2.ensures c.requires.factor_ok in
    let first_is = widened c.from.result c.args.factor c.from.ensures c.requires.factor_ok in
    let second_is = widened c.from-2.result c.args.factor c.from-2.ensures c.requires.factor_ok in
    exact (c.from.result ∷ c.from-2.result ∷ c.args.s ∷ []) bounds whole (first, (second, (c.requires.s_ok.within, tt))) refl ∙ rw (first_is, second_is) refl

pub returns-clause-bound : goal.returns-clause-bound
unfolding bounds whole
returns-clause-bound c =
    let first = widened_within c.from.result c.args.factor c.from.ensures c.requires.factor_ok in
    let second = widened_within c.from-2.result c.args.factor c.from-2.ensures c.requires.factor_ok in
    record { within = stays (c.from.result ∷ c.from-2.result ∷ c.args.s ∷ []) bounds whole wall_width (first, (second, (c.requires.s_ok.within, tt))) refl }
