use Rattle.std.proofs.Common.{ℕ, List, [], ◌∷◌, refl, w64}
use mir.Syntax.{w128}
use lib.IntN.{pos}
use Rattle.mill_base.proofs.Machine.{Read, Cast, Lit, Sum, Diff, Prod, exact, stays, sum_fits, prod_fits}
use Rattle.mill_geom.specs.Widths.{most_area, most_mixed_place}
use Rattle.mill_geom.proofs.strip.mixed_x.Goals as goal

-- how far each number is from 0
bounds : List ℕ
bounds = most_area ∷ most_area ∷ most_area ∷ most_area ∷ []

pub overflow_mul-result : goal.overflow_mul-result
unfolding bounds
overflow_mul-result c = prod_fits w128 (c.args.low.x ∷ c.args.low.y ∷ c.args.high.x ∷ c.args.high.y ∷ []) bounds (Diff w128 (Lit (pos 0)) (Cast w128 (Read w64 3))) (Cast w128 (Read w64 0)) (c.requires.low_ok.x_ok.within, (c.requires.low_ok.y_ok.within, (c.requires.high_ok.x_ok.within, (c.requires.high_ok.y_ok.within, tt)))) refl

pub overflow_mul-result-2 : goal.overflow_mul-result-2
unfolding bounds
overflow_mul-result-2 c = prod_fits w128 (c.args.low.x ∷ c.args.low.y ∷ c.args.high.x ∷ c.args.high.y ∷ []) bounds (Diff w128 (Lit (pos 0)) (Cast w128 (Read w64 1))) (Cast w128 (Read w64 2)) (c.requires.low_ok.x_ok.within, (c.requires.low_ok.y_ok.within, (c.requires.high_ok.x_ok.within, (c.requires.high_ok.y_ok.within, tt)))) refl

pub overflow_add-result : goal.overflow_add-result
unfolding bounds
overflow_add-result c = sum_fits w128 (c.args.low.x ∷ c.args.low.y ∷ c.args.high.x ∷ c.args.high.y ∷ []) bounds (Prod w128 (Diff w128 (Lit (pos 0)) (Cast w128 (Read w64 3))) (Cast w128 (Read w64 0))) (Prod w128 (Diff w128 (Lit (pos 0)) (Cast w128 (Read w64 1))) (Cast w128 (Read w64 2))) (c.requires.low_ok.x_ok.within, (c.requires.low_ok.y_ok.within, (c.requires.high_ok.x_ok.within, (c.requires.high_ok.y_ok.within, tt)))) refl

pub returns-clause-value : goal.returns-clause-value
unfolding bounds
returns-clause-value c = exact (c.args.low.x ∷ c.args.low.y ∷ c.args.high.x ∷ c.args.high.y ∷ []) bounds (Sum w128 (Prod w128 (Diff w128 (Lit (pos 0)) (Cast w128 (Read w64 3))) (Cast w128 (Read w64 0))) (Prod w128 (Diff w128 (Lit (pos 0)) (Cast w128 (Read w64 1))) (Cast w128 (Read w64 2)))) (c.requires.low_ok.x_ok.within, (c.requires.low_ok.y_ok.within, (c.requires.high_ok.x_ok.within, (c.requires.high_ok.y_ok.within, tt)))) refl

pub returns-clause-bound : goal.returns-clause-bound
unfolding bounds
returns-clause-bound c = record { within = stays (c.args.low.x ∷ c.args.low.y ∷ c.args.high.x ∷ c.args.high.y ∷ []) bounds (Sum w128 (Prod w128 (Diff w128 (Lit (pos 0)) (Cast w128 (Read w64 3))) (Cast w128 (Read w64 0))) (Prod w128 (Diff w128 (Lit (pos 0)) (Cast w128 (Read w64 1))) (Cast w128 (Read w64 2)))) most_mixed_place (c.requires.low_ok.x_ok.within, (c.requires.low_ok.y_ok.within, (c.requires.high_ok.x_ok.within, (c.requires.high_ok.y_ok.within, tt)))) refl }
