use Rattle.std.proofs.Common.{ℕ, List, [], ◌∷◌, refl, w64}
use mir.Syntax.{w128}
use Rattle.mill_base.proofs.Machine.{Read, Cast, Sum, Prod, exact, stays, sum_fits, prod_fits}
use Rattle.mill_geom.specs.Widths.{most_area, most_lift, most_lifted_volume}
use Rattle.mill_geom.proofs.plane.weighted.Goals as goal

-- how far each number is from 0
bounds : List ℕ
bounds = most_area ∷ most_area ∷ most_area ∷ most_lift ∷ most_lift ∷ most_lift ∷ []

pub overflow_mul-result : goal.overflow_mul-result
unfolding bounds
overflow_mul-result c = prod_fits w128 (c.args.i ∷ c.args.j ∷ c.args.k ∷ c.args.x ∷ c.args.y ∷ c.args.z ∷ []) bounds (Cast w128 (Read w64 0)) (Cast w128 (Read w64 3)) (c.requires.i_ok.within, (c.requires.j_ok.within, (c.requires.k_ok.within, (c.requires.x_ok.within, (c.requires.y_ok.within, (c.requires.z_ok.within, tt)))))) refl

pub overflow_mul-result-2 : goal.overflow_mul-result-2
unfolding bounds
overflow_mul-result-2 c = prod_fits w128 (c.args.i ∷ c.args.j ∷ c.args.k ∷ c.args.x ∷ c.args.y ∷ c.args.z ∷ []) bounds (Cast w128 (Read w64 1)) (Cast w128 (Read w64 4)) (c.requires.i_ok.within, (c.requires.j_ok.within, (c.requires.k_ok.within, (c.requires.x_ok.within, (c.requires.y_ok.within, (c.requires.z_ok.within, tt)))))) refl

pub overflow_add-result : goal.overflow_add-result
unfolding bounds
overflow_add-result c = sum_fits w128 (c.args.i ∷ c.args.j ∷ c.args.k ∷ c.args.x ∷ c.args.y ∷ c.args.z ∷ []) bounds (Prod w128 (Cast w128 (Read w64 0)) (Cast w128 (Read w64 3))) (Prod w128 (Cast w128 (Read w64 1)) (Cast w128 (Read w64 4))) (c.requires.i_ok.within, (c.requires.j_ok.within, (c.requires.k_ok.within, (c.requires.x_ok.within, (c.requires.y_ok.within, (c.requires.z_ok.within, tt)))))) refl

pub overflow_mul-result-3 : goal.overflow_mul-result-3
unfolding bounds
overflow_mul-result-3 c = prod_fits w128 (c.args.i ∷ c.args.j ∷ c.args.k ∷ c.args.x ∷ c.args.y ∷ c.args.z ∷ []) bounds (Cast w128 (Read w64 2)) (Cast w128 (Read w64 5)) (c.requires.i_ok.within, (c.requires.j_ok.within, (c.requires.k_ok.within, (c.requires.x_ok.within, (c.requires.y_ok.within, (c.requires.z_ok.within, tt)))))) refl

pub overflow_add-result-2 : goal.overflow_add-result-2
unfolding bounds
overflow_add-result-2 c = sum_fits w128 (c.args.i ∷ c.args.j ∷ c.args.k ∷ c.args.x ∷ c.args.y ∷ c.args.z ∷ []) bounds (Sum w128 (Prod w128 (Cast w128 (Read w64 0)) (Cast w128 (Read w64 3))) (Prod w128 (Cast w128 (Read w64 1)) (Cast w128 (Read w64 4)))) (Prod w128 (Cast w128 (Read w64 2)) (Cast w128 (Read w64 5))) (c.requires.i_ok.within, (c.requires.j_ok.within, (c.requires.k_ok.within, (c.requires.x_ok.within, (c.requires.y_ok.within, (c.requires.z_ok.within, tt)))))) refl

pub returns-clause-value : goal.returns-clause-value
unfolding bounds
returns-clause-value c = exact (c.args.i ∷ c.args.j ∷ c.args.k ∷ c.args.x ∷ c.args.y ∷ c.args.z ∷ []) bounds (Sum w128 (Sum w128 (Prod w128 (Cast w128 (Read w64 0)) (Cast w128 (Read w64 3))) (Prod w128 (Cast w128 (Read w64 1)) (Cast w128 (Read w64 4)))) (Prod w128 (Cast w128 (Read w64 2)) (Cast w128 (Read w64 5)))) (c.requires.i_ok.within, (c.requires.j_ok.within, (c.requires.k_ok.within, (c.requires.x_ok.within, (c.requires.y_ok.within, (c.requires.z_ok.within, tt)))))) refl

pub returns-clause-bound : goal.returns-clause-bound
unfolding bounds
returns-clause-bound c = record { within = stays (c.args.i ∷ c.args.j ∷ c.args.k ∷ c.args.x ∷ c.args.y ∷ c.args.z ∷ []) bounds (Sum w128 (Sum w128 (Prod w128 (Cast w128 (Read w64 0)) (Cast w128 (Read w64 3))) (Prod w128 (Cast w128 (Read w64 1)) (Cast w128 (Read w64 4)))) (Prod w128 (Cast w128 (Read w64 2)) (Cast w128 (Read w64 5)))) most_lifted_volume (c.requires.i_ok.within, (c.requires.j_ok.within, (c.requires.k_ok.within, (c.requires.x_ok.within, (c.requires.y_ok.within, (c.requires.z_ok.within, tt)))))) refl }
