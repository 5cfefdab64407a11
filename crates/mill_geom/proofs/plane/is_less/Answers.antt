use Rattle.std.proofs.Common.{ℕ, List, [], ◌∷◌, refl, w64}
use mir.Syntax.{w128}
use Rattle.mill_base.proofs.Machine.{Read, Cast, Sum, Prod, less, sum_fits, prod_fits}
use Rattle.mill_geom.specs.declared.plane.TheConstants.{FAR_VOLUME}
use Rattle.mill_geom.specs.Widths.{widest, most_slope}
use Rattle.mill_geom.proofs.plane.is_less.Goals as goal

-- how far each number is from 0
bounds : List ℕ
bounds = FAR_VOLUME ∷ most_slope ∷ most_slope ∷ widest ∷ []

pub overflow_mul-result : goal.overflow_mul-result
unfolding bounds
overflow_mul-result c = prod_fits w128 (c.args.volume ∷ c.args.x ∷ c.args.y ∷ c.args.radius ∷ []) bounds (Read w128 0) (Read w128 0) (c.requires.volume_ok.within, (c.requires.x_ok.within, (c.requires.y_ok.within, (c.requires.r_ok.within, tt)))) refl

pub overflow_mul-result-2 : goal.overflow_mul-result-2
unfolding bounds
overflow_mul-result-2 c = prod_fits w128 (c.args.volume ∷ c.args.x ∷ c.args.y ∷ c.args.radius ∷ []) bounds (Cast w128 (Read w64 3)) (Cast w128 (Read w64 3)) (c.requires.volume_ok.within, (c.requires.x_ok.within, (c.requires.y_ok.within, (c.requires.r_ok.within, tt)))) refl

pub overflow_mul-result-3 : goal.overflow_mul-result-3
unfolding bounds
overflow_mul-result-3 c = prod_fits w128 (c.args.volume ∷ c.args.x ∷ c.args.y ∷ c.args.radius ∷ []) bounds (Cast w128 (Read w64 1)) (Cast w128 (Read w64 1)) (c.requires.volume_ok.within, (c.requires.x_ok.within, (c.requires.y_ok.within, (c.requires.r_ok.within, tt)))) refl

pub overflow_mul-result-4 : goal.overflow_mul-result-4
unfolding bounds
overflow_mul-result-4 c = prod_fits w128 (c.args.volume ∷ c.args.x ∷ c.args.y ∷ c.args.radius ∷ []) bounds (Cast w128 (Read w64 2)) (Cast w128 (Read w64 2)) (c.requires.volume_ok.within, (c.requires.x_ok.within, (c.requires.y_ok.within, (c.requires.r_ok.within, tt)))) refl

pub overflow_add-result : goal.overflow_add-result
unfolding bounds
overflow_add-result c = sum_fits w128 (c.args.volume ∷ c.args.x ∷ c.args.y ∷ c.args.radius ∷ []) bounds (Prod w128 (Cast w128 (Read w64 1)) (Cast w128 (Read w64 1))) (Prod w128 (Cast w128 (Read w64 2)) (Cast w128 (Read w64 2))) (c.requires.volume_ok.within, (c.requires.x_ok.within, (c.requires.y_ok.within, (c.requires.r_ok.within, tt)))) refl

pub overflow_mul-result-5 : goal.overflow_mul-result-5
unfolding bounds
overflow_mul-result-5 c = prod_fits w128 (c.args.volume ∷ c.args.x ∷ c.args.y ∷ c.args.radius ∷ []) bounds (Prod w128 (Cast w128 (Read w64 3)) (Cast w128 (Read w64 3))) (Sum w128 (Prod w128 (Cast w128 (Read w64 1)) (Cast w128 (Read w64 1))) (Prod w128 (Cast w128 (Read w64 2)) (Cast w128 (Read w64 2)))) (c.requires.volume_ok.within, (c.requires.x_ok.within, (c.requires.y_ok.within, (c.requires.r_ok.within, tt)))) refl

pub returns : goal.returns
unfolding bounds
returns c = less (c.args.volume ∷ c.args.x ∷ c.args.y ∷ c.args.radius ∷ []) bounds (Prod w128 (Read w128 0) (Read w128 0)) (Prod w128 (Prod w128 (Cast w128 (Read w64 3)) (Cast w128 (Read w64 3))) (Sum w128 (Prod w128 (Cast w128 (Read w64 1)) (Cast w128 (Read w64 1))) (Prod w128 (Cast w128 (Read w64 2)) (Cast w128 (Read w64 2))))) (c.requires.volume_ok.within, (c.requires.x_ok.within, (c.requires.y_ok.within, (c.requires.r_ok.within, tt)))) refl
