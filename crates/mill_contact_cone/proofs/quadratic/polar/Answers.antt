use Rattle.std.proofs.Common.{ℕ, List, [], ◌∷◌, refl, w64}
use mir.Syntax.{w128}
use Rattle.mill_base.proofs.Machine.{Read, Cast, Sum, Prod, exact, stays, sum_fits, prod_fits}
use Rattle.mill_geom.specs.Widths.{most_lift}
use Rattle.mill_contact_cone.specs.inner.Widths.{most_cone_form, most_blend_form}
use Rattle.mill_contact_cone.proofs.quadratic.polar.Goals as goal

-- how far each number is from 0
bounds : List ℕ
bounds = most_lift ∷ most_lift ∷ most_lift ∷ most_lift ∷ most_cone_form ∷ most_cone_form ∷ most_cone_form ∷ []

pub overflow_mul-first : goal.overflow_mul-first
unfolding bounds
overflow_mul-first c = prod_fits w64 (c.args.p.u ∷ c.args.p.v ∷ c.args.q.u ∷ c.args.q.v ∷ c.args.form.a ∷ c.args.form.h ∷ c.args.form.b ∷ []) bounds (Read w64 0) (Read w64 2) (c.requires.p_ok.u_ok.within, (c.requires.p_ok.v_ok.within, (c.requires.q_ok.u_ok.within, (c.requires.q_ok.v_ok.within, (c.requires.form_ok.a_ok.within, (c.requires.form_ok.h_ok.within, (c.requires.form_ok.b_ok.within, tt))))))) refl

pub overflow_mul-first-2 : goal.overflow_mul-first-2
unfolding bounds
overflow_mul-first-2 c = prod_fits w128 (c.args.p.u ∷ c.args.p.v ∷ c.args.q.u ∷ c.args.q.v ∷ c.args.form.a ∷ c.args.form.h ∷ c.args.form.b ∷ []) bounds (Cast w128 (Prod w64 (Read w64 0) (Read w64 2))) (Cast w128 (Read w64 4)) (c.requires.p_ok.u_ok.within, (c.requires.p_ok.v_ok.within, (c.requires.q_ok.u_ok.within, (c.requires.q_ok.v_ok.within, (c.requires.form_ok.a_ok.within, (c.requires.form_ok.h_ok.within, (c.requires.form_ok.b_ok.within, tt))))))) refl

pub overflow_mul-mixed : goal.overflow_mul-mixed
unfolding bounds
overflow_mul-mixed c = prod_fits w64 (c.args.p.u ∷ c.args.p.v ∷ c.args.q.u ∷ c.args.q.v ∷ c.args.form.a ∷ c.args.form.h ∷ c.args.form.b ∷ []) bounds (Read w64 0) (Read w64 3) (c.requires.p_ok.u_ok.within, (c.requires.p_ok.v_ok.within, (c.requires.q_ok.u_ok.within, (c.requires.q_ok.v_ok.within, (c.requires.form_ok.a_ok.within, (c.requires.form_ok.h_ok.within, (c.requires.form_ok.b_ok.within, tt))))))) refl

pub overflow_mul-mixed-2 : goal.overflow_mul-mixed-2
unfolding bounds
overflow_mul-mixed-2 c = prod_fits w64 (c.args.p.u ∷ c.args.p.v ∷ c.args.q.u ∷ c.args.q.v ∷ c.args.form.a ∷ c.args.form.h ∷ c.args.form.b ∷ []) bounds (Read w64 1) (Read w64 2) (c.requires.p_ok.u_ok.within, (c.requires.p_ok.v_ok.within, (c.requires.q_ok.u_ok.within, (c.requires.q_ok.v_ok.within, (c.requires.form_ok.a_ok.within, (c.requires.form_ok.h_ok.within, (c.requires.form_ok.b_ok.within, tt))))))) refl

pub overflow_add-mixed : goal.overflow_add-mixed
unfolding bounds
overflow_add-mixed c = sum_fits w64 (c.args.p.u ∷ c.args.p.v ∷ c.args.q.u ∷ c.args.q.v ∷ c.args.form.a ∷ c.args.form.h ∷ c.args.form.b ∷ []) bounds (Prod w64 (Read w64 0) (Read w64 3)) (Prod w64 (Read w64 1) (Read w64 2)) (c.requires.p_ok.u_ok.within, (c.requires.p_ok.v_ok.within, (c.requires.q_ok.u_ok.within, (c.requires.q_ok.v_ok.within, (c.requires.form_ok.a_ok.within, (c.requires.form_ok.h_ok.within, (c.requires.form_ok.b_ok.within, tt))))))) refl

pub overflow_mul-mixed-3 : goal.overflow_mul-mixed-3
unfolding bounds
overflow_mul-mixed-3 c = prod_fits w128 (c.args.p.u ∷ c.args.p.v ∷ c.args.q.u ∷ c.args.q.v ∷ c.args.form.a ∷ c.args.form.h ∷ c.args.form.b ∷ []) bounds (Cast w128 (Sum w64 (Prod w64 (Read w64 0) (Read w64 3)) (Prod w64 (Read w64 1) (Read w64 2)))) (Cast w128 (Read w64 5)) (c.requires.p_ok.u_ok.within, (c.requires.p_ok.v_ok.within, (c.requires.q_ok.u_ok.within, (c.requires.q_ok.v_ok.within, (c.requires.form_ok.a_ok.within, (c.requires.form_ok.h_ok.within, (c.requires.form_ok.b_ok.within, tt))))))) refl

pub overflow_mul-last : goal.overflow_mul-last
unfolding bounds
overflow_mul-last c = prod_fits w64 (c.args.p.u ∷ c.args.p.v ∷ c.args.q.u ∷ c.args.q.v ∷ c.args.form.a ∷ c.args.form.h ∷ c.args.form.b ∷ []) bounds (Read w64 1) (Read w64 3) (c.requires.p_ok.u_ok.within, (c.requires.p_ok.v_ok.within, (c.requires.q_ok.u_ok.within, (c.requires.q_ok.v_ok.within, (c.requires.form_ok.a_ok.within, (c.requires.form_ok.h_ok.within, (c.requires.form_ok.b_ok.within, tt))))))) refl

pub overflow_mul-last-2 : goal.overflow_mul-last-2
unfolding bounds
overflow_mul-last-2 c = prod_fits w128 (c.args.p.u ∷ c.args.p.v ∷ c.args.q.u ∷ c.args.q.v ∷ c.args.form.a ∷ c.args.form.h ∷ c.args.form.b ∷ []) bounds (Cast w128 (Prod w64 (Read w64 1) (Read w64 3))) (Cast w128 (Read w64 6)) (c.requires.p_ok.u_ok.within, (c.requires.p_ok.v_ok.within, (c.requires.q_ok.u_ok.within, (c.requires.q_ok.v_ok.within, (c.requires.form_ok.a_ok.within, (c.requires.form_ok.h_ok.within, (c.requires.form_ok.b_ok.within, tt))))))) refl

pub overflow_add-result : goal.overflow_add-result
unfolding bounds
overflow_add-result c = sum_fits w128 (c.args.p.u ∷ c.args.p.v ∷ c.args.q.u ∷ c.args.q.v ∷ c.args.form.a ∷ c.args.form.h ∷ c.args.form.b ∷ []) bounds (Prod w128 (Cast w128 (Prod w64 (Read w64 0) (Read w64 2))) (Cast w128 (Read w64 4))) (Prod w128 (Cast w128 (Sum w64 (Prod w64 (Read w64 0) (Read w64 3)) (Prod w64 (Read w64 1) (Read w64 2)))) (Cast w128 (Read w64 5))) (c.requires.p_ok.u_ok.within, (c.requires.p_ok.v_ok.within, (c.requires.q_ok.u_ok.within, (c.requires.q_ok.v_ok.within, (c.requires.form_ok.a_ok.within, (c.requires.form_ok.h_ok.within, (c.requires.form_ok.b_ok.within, tt))))))) refl

pub overflow_add-result-2 : goal.overflow_add-result-2
unfolding bounds
overflow_add-result-2 c = sum_fits w128 (c.args.p.u ∷ c.args.p.v ∷ c.args.q.u ∷ c.args.q.v ∷ c.args.form.a ∷ c.args.form.h ∷ c.args.form.b ∷ []) bounds (Sum w128 (Prod w128 (Cast w128 (Prod w64 (Read w64 0) (Read w64 2))) (Cast w128 (Read w64 4))) (Prod w128 (Cast w128 (Sum w64 (Prod w64 (Read w64 0) (Read w64 3)) (Prod w64 (Read w64 1) (Read w64 2)))) (Cast w128 (Read w64 5)))) (Prod w128 (Cast w128 (Prod w64 (Read w64 1) (Read w64 3))) (Cast w128 (Read w64 6))) (c.requires.p_ok.u_ok.within, (c.requires.p_ok.v_ok.within, (c.requires.q_ok.u_ok.within, (c.requires.q_ok.v_ok.within, (c.requires.form_ok.a_ok.within, (c.requires.form_ok.h_ok.within, (c.requires.form_ok.b_ok.within, tt))))))) refl

pub returns-clause-value : goal.returns-clause-value
unfolding bounds
returns-clause-value c = exact (c.args.p.u ∷ c.args.p.v ∷ c.args.q.u ∷ c.args.q.v ∷ c.args.form.a ∷ c.args.form.h ∷ c.args.form.b ∷ []) bounds (Sum w128 (Sum w128 (Prod w128 (Cast w128 (Prod w64 (Read w64 0) (Read w64 2))) (Cast w128 (Read w64 4))) (Prod w128 (Cast w128 (Sum w64 (Prod w64 (Read w64 0) (Read w64 3)) (Prod w64 (Read w64 1) (Read w64 2)))) (Cast w128 (Read w64 5)))) (Prod w128 (Cast w128 (Prod w64 (Read w64 1) (Read w64 3))) (Cast w128 (Read w64 6)))) (c.requires.p_ok.u_ok.within, (c.requires.p_ok.v_ok.within, (c.requires.q_ok.u_ok.within, (c.requires.q_ok.v_ok.within, (c.requires.form_ok.a_ok.within, (c.requires.form_ok.h_ok.within, (c.requires.form_ok.b_ok.within, tt))))))) refl

pub returns-clause-bound : goal.returns-clause-bound
unfolding bounds
returns-clause-bound c = record { within = stays (c.args.p.u ∷ c.args.p.v ∷ c.args.q.u ∷ c.args.q.v ∷ c.args.form.a ∷ c.args.form.h ∷ c.args.form.b ∷ []) bounds (Sum w128 (Sum w128 (Prod w128 (Cast w128 (Prod w64 (Read w64 0) (Read w64 2))) (Cast w128 (Read w64 4))) (Prod w128 (Cast w128 (Sum w64 (Prod w64 (Read w64 0) (Read w64 3)) (Prod w64 (Read w64 1) (Read w64 2)))) (Cast w128 (Read w64 5)))) (Prod w128 (Cast w128 (Prod w64 (Read w64 1) (Read w64 3))) (Cast w128 (Read w64 6)))) most_blend_form (c.requires.p_ok.u_ok.within, (c.requires.p_ok.v_ok.within, (c.requires.q_ok.u_ok.within, (c.requires.q_ok.v_ok.within, (c.requires.form_ok.a_ok.within, (c.requires.form_ok.h_ok.within, (c.requires.form_ok.b_ok.within, tt))))))) refl }
