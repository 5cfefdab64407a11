use Rattle.std.proofs.Common.{ℕ, List, [], ◌∷◌, refl, w64}
use Rattle.mill_base.proofs.Machine.{Read, Sum, Diff, Prod, exact, stays, sum_fits, diff_fits, prod_fits}
use Rattle.mill_geom.specs.Widths.{farthest}
use Rattle.mill_contact_cone.specs.inner.Widths.{most_slant}
use Rattle.mill_contact_cone.proofs.edge.slant.Goals as goal

-- how far each number is from 0
bounds : List ℕ
bounds = farthest ∷ farthest ∷ farthest ∷ farthest ∷ farthest ∷ farthest ∷ []

pub overflow_add-result : goal.overflow_add-result
unfolding bounds
overflow_add-result c = sum_fits w64 (c.args.p.x ∷ c.args.p.y ∷ c.args.p.z ∷ c.args.q.x ∷ c.args.q.y ∷ c.args.q.z ∷ []) bounds (Prod w64 (Read w64 0) (Read w64 3)) (Prod w64 (Read w64 1) (Read w64 4)) (c.requires.p_ok.x_ok.within, (c.requires.p_ok.y_ok.within, (c.requires.p_ok.z_ok.within, (c.requires.q_ok.x_ok.within, (c.requires.q_ok.y_ok.within, (c.requires.q_ok.z_ok.within, tt)))))) refl

pub overflow_mul-result-3 : goal.overflow_mul-result-3
unfolding bounds
overflow_mul-result-3 c = prod_fits w64 (c.args.p.x ∷ c.args.p.y ∷ c.args.p.z ∷ c.args.q.x ∷ c.args.q.y ∷ c.args.q.z ∷ []) bounds (Read w64 5) (Sum w64 (Prod w64 (Read w64 0) (Read w64 3)) (Prod w64 (Read w64 1) (Read w64 4))) (c.requires.p_ok.x_ok.within, (c.requires.p_ok.y_ok.within, (c.requires.p_ok.z_ok.within, (c.requires.q_ok.x_ok.within, (c.requires.q_ok.y_ok.within, (c.requires.q_ok.z_ok.within, tt)))))) refl

pub overflow_mul-result-4 : goal.overflow_mul-result-4
unfolding bounds
overflow_mul-result-4 c = prod_fits w64 (c.args.p.x ∷ c.args.p.y ∷ c.args.p.z ∷ c.args.q.x ∷ c.args.q.y ∷ c.args.q.z ∷ []) bounds (Read w64 3) (Read w64 3) (c.requires.p_ok.x_ok.within, (c.requires.p_ok.y_ok.within, (c.requires.p_ok.z_ok.within, (c.requires.q_ok.x_ok.within, (c.requires.q_ok.y_ok.within, (c.requires.q_ok.z_ok.within, tt)))))) refl

pub overflow_mul-result-5 : goal.overflow_mul-result-5
unfolding bounds
overflow_mul-result-5 c = prod_fits w64 (c.args.p.x ∷ c.args.p.y ∷ c.args.p.z ∷ c.args.q.x ∷ c.args.q.y ∷ c.args.q.z ∷ []) bounds (Read w64 4) (Read w64 4) (c.requires.p_ok.x_ok.within, (c.requires.p_ok.y_ok.within, (c.requires.p_ok.z_ok.within, (c.requires.q_ok.x_ok.within, (c.requires.q_ok.y_ok.within, (c.requires.q_ok.z_ok.within, tt)))))) refl

pub overflow_add-result-2 : goal.overflow_add-result-2
unfolding bounds
overflow_add-result-2 c = sum_fits w64 (c.args.p.x ∷ c.args.p.y ∷ c.args.p.z ∷ c.args.q.x ∷ c.args.q.y ∷ c.args.q.z ∷ []) bounds (Prod w64 (Read w64 3) (Read w64 3)) (Prod w64 (Read w64 4) (Read w64 4)) (c.requires.p_ok.x_ok.within, (c.requires.p_ok.y_ok.within, (c.requires.p_ok.z_ok.within, (c.requires.q_ok.x_ok.within, (c.requires.q_ok.y_ok.within, (c.requires.q_ok.z_ok.within, tt)))))) refl

pub overflow_mul-result-6 : goal.overflow_mul-result-6
unfolding bounds
overflow_mul-result-6 c = prod_fits w64 (c.args.p.x ∷ c.args.p.y ∷ c.args.p.z ∷ c.args.q.x ∷ c.args.q.y ∷ c.args.q.z ∷ []) bounds (Read w64 2) (Sum w64 (Prod w64 (Read w64 3) (Read w64 3)) (Prod w64 (Read w64 4) (Read w64 4))) (c.requires.p_ok.x_ok.within, (c.requires.p_ok.y_ok.within, (c.requires.p_ok.z_ok.within, (c.requires.q_ok.x_ok.within, (c.requires.q_ok.y_ok.within, (c.requires.q_ok.z_ok.within, tt)))))) refl

pub overflow_sub-result : goal.overflow_sub-result
unfolding bounds
overflow_sub-result c = diff_fits w64 (c.args.p.x ∷ c.args.p.y ∷ c.args.p.z ∷ c.args.q.x ∷ c.args.q.y ∷ c.args.q.z ∷ []) bounds (Prod w64 (Read w64 5) (Sum w64 (Prod w64 (Read w64 0) (Read w64 3)) (Prod w64 (Read w64 1) (Read w64 4)))) (Prod w64 (Read w64 2) (Sum w64 (Prod w64 (Read w64 3) (Read w64 3)) (Prod w64 (Read w64 4) (Read w64 4)))) (c.requires.p_ok.x_ok.within, (c.requires.p_ok.y_ok.within, (c.requires.p_ok.z_ok.within, (c.requires.q_ok.x_ok.within, (c.requires.q_ok.y_ok.within, (c.requires.q_ok.z_ok.within, tt)))))) refl

pub returns-clause-value : goal.returns-clause-value
unfolding bounds
returns-clause-value c = exact (c.args.p.x ∷ c.args.p.y ∷ c.args.p.z ∷ c.args.q.x ∷ c.args.q.y ∷ c.args.q.z ∷ []) bounds (Diff w64 (Prod w64 (Read w64 5) (Sum w64 (Prod w64 (Read w64 0) (Read w64 3)) (Prod w64 (Read w64 1) (Read w64 4)))) (Prod w64 (Read w64 2) (Sum w64 (Prod w64 (Read w64 3) (Read w64 3)) (Prod w64 (Read w64 4) (Read w64 4))))) (c.requires.p_ok.x_ok.within, (c.requires.p_ok.y_ok.within, (c.requires.p_ok.z_ok.within, (c.requires.q_ok.x_ok.within, (c.requires.q_ok.y_ok.within, (c.requires.q_ok.z_ok.within, tt)))))) refl

pub returns-clause-bound : goal.returns-clause-bound
unfolding bounds
returns-clause-bound c = record { within = stays (c.args.p.x ∷ c.args.p.y ∷ c.args.p.z ∷ c.args.q.x ∷ c.args.q.y ∷ c.args.q.z ∷ []) bounds (Diff w64 (Prod w64 (Read w64 5) (Sum w64 (Prod w64 (Read w64 0) (Read w64 3)) (Prod w64 (Read w64 1) (Read w64 4)))) (Prod w64 (Read w64 2) (Sum w64 (Prod w64 (Read w64 3) (Read w64 3)) (Prod w64 (Read w64 4) (Read w64 4))))) most_slant (c.requires.p_ok.x_ok.within, (c.requires.p_ok.y_ok.within, (c.requires.p_ok.z_ok.within, (c.requires.q_ok.x_ok.within, (c.requires.q_ok.y_ok.within, (c.requires.q_ok.z_ok.within, tt)))))) refl }
