use Rattle.std.proofs.Common.{ℕ, List, [], ◌∷◌, refl, w64}
use Rattle.mill_base.proofs.Machine.{Read, Sum, Diff, Prod, exact, stays, sum_fits, diff_fits, prod_fits}
use Rattle.mill_contact_cone.proofs.Sizes.{radius_within}
use Rattle.mill_geom.specs.Widths.{farthest, widest}
use Rattle.mill_contact_cone.specs.inner.Widths.{most_cone_form}
use Rattle.mill_contact_cone.proofs.edge.upper_product.Goals as goal

-- how far each number is from 0
bounds : List ℕ
bounds = farthest ∷ farthest ∷ farthest ∷ farthest ∷ widest ∷ []

pub overflow_mul-result : goal.overflow_mul-result
unfolding bounds
overflow_mul-result c = prod_fits w64 (c.args.p.x ∷ c.args.q.x ∷ c.args.p.y ∷ c.args.q.y ∷ c.args.cone.radius ∷ []) bounds (Read w64 0) (Read w64 1) (c.requires.p_ok.x_ok.within, (c.requires.q_ok.x_ok.within, (c.requires.p_ok.y_ok.within, (c.requires.q_ok.y_ok.within, (radius_within c.args.cone c.requires.cone_ok, tt))))) refl

pub overflow_mul-result-2 : goal.overflow_mul-result-2
unfolding bounds
overflow_mul-result-2 c = prod_fits w64 (c.args.p.x ∷ c.args.q.x ∷ c.args.p.y ∷ c.args.q.y ∷ c.args.cone.radius ∷ []) bounds (Read w64 2) (Read w64 3) (c.requires.p_ok.x_ok.within, (c.requires.q_ok.x_ok.within, (c.requires.p_ok.y_ok.within, (c.requires.q_ok.y_ok.within, (radius_within c.args.cone c.requires.cone_ok, tt))))) refl

pub overflow_add-result : goal.overflow_add-result
unfolding bounds
overflow_add-result c = sum_fits w64 (c.args.p.x ∷ c.args.q.x ∷ c.args.p.y ∷ c.args.q.y ∷ c.args.cone.radius ∷ []) bounds (Prod w64 (Read w64 0) (Read w64 1)) (Prod w64 (Read w64 2) (Read w64 3)) (c.requires.p_ok.x_ok.within, (c.requires.q_ok.x_ok.within, (c.requires.p_ok.y_ok.within, (c.requires.q_ok.y_ok.within, (radius_within c.args.cone c.requires.cone_ok, tt))))) refl

pub overflow_mul-result-3 : goal.overflow_mul-result-3
unfolding bounds
overflow_mul-result-3 c = prod_fits w64 (c.args.p.x ∷ c.args.q.x ∷ c.args.p.y ∷ c.args.q.y ∷ c.args.cone.radius ∷ []) bounds (Read w64 4) (Read w64 4) (c.requires.p_ok.x_ok.within, (c.requires.q_ok.x_ok.within, (c.requires.p_ok.y_ok.within, (c.requires.q_ok.y_ok.within, (radius_within c.args.cone c.requires.cone_ok, tt))))) refl

pub overflow_sub-result : goal.overflow_sub-result
unfolding bounds
overflow_sub-result c = diff_fits w64 (c.args.p.x ∷ c.args.q.x ∷ c.args.p.y ∷ c.args.q.y ∷ c.args.cone.radius ∷ []) bounds (Sum w64 (Prod w64 (Read w64 0) (Read w64 1)) (Prod w64 (Read w64 2) (Read w64 3))) (Prod w64 (Read w64 4) (Read w64 4)) (c.requires.p_ok.x_ok.within, (c.requires.q_ok.x_ok.within, (c.requires.p_ok.y_ok.within, (c.requires.q_ok.y_ok.within, (radius_within c.args.cone c.requires.cone_ok, tt))))) refl

pub returns-clause-value : goal.returns-clause-value
unfolding bounds
returns-clause-value c = exact (c.args.p.x ∷ c.args.q.x ∷ c.args.p.y ∷ c.args.q.y ∷ c.args.cone.radius ∷ []) bounds (Diff w64 (Sum w64 (Prod w64 (Read w64 0) (Read w64 1)) (Prod w64 (Read w64 2) (Read w64 3))) (Prod w64 (Read w64 4) (Read w64 4))) (c.requires.p_ok.x_ok.within, (c.requires.q_ok.x_ok.within, (c.requires.p_ok.y_ok.within, (c.requires.q_ok.y_ok.within, (radius_within c.args.cone c.requires.cone_ok, tt))))) refl

pub returns-clause-bound : goal.returns-clause-bound
unfolding bounds
returns-clause-bound c = record { within = stays (c.args.p.x ∷ c.args.q.x ∷ c.args.p.y ∷ c.args.q.y ∷ c.args.cone.radius ∷ []) bounds (Diff w64 (Sum w64 (Prod w64 (Read w64 0) (Read w64 1)) (Prod w64 (Read w64 2) (Read w64 3))) (Prod w64 (Read w64 4) (Read w64 4))) most_cone_form (c.requires.p_ok.x_ok.within, (c.requires.q_ok.x_ok.within, (c.requires.p_ok.y_ok.within, (c.requires.q_ok.y_ok.within, (radius_within c.args.cone c.requires.cone_ok, tt))))) refl }
