use Rattle.std.proofs.Common.{ℕ, List, [], ◌∷◌, refl, w64}
use mir.Syntax.{w128}
use Rattle.mill_base.proofs.Machine.{Read, Cast, Sum, Diff, Prod, exact, stays, sum_fits, diff_fits, prod_fits, cast_fits}
use Rattle.mill_geom.specs.Widths.{most_form, most_mixed_form, most_lift}
use Rattle.mill_geom.proofs.level.mixed_form.Goals as goal

-- how far each number is from 0
bounds : List ℕ
bounds = most_form ∷ most_form ∷ most_form ∷ most_form ∷ most_lift ∷ most_lift ∷ most_lift ∷ []

pub overflow_cast-p : goal.overflow_cast-p
unfolding bounds
overflow_cast-p c = cast_fits w128 (c.args.pp ∷ c.args.pq ∷ c.args.ps ∷ c.args.qs ∷ c.args.p ∷ c.args.q ∷ c.args.s ∷ []) bounds (Read w64 4) (c.requires.pp_ok.within, (c.requires.pq_ok.within, (c.requires.ps_ok.within, (c.requires.qs_ok.within, (c.requires.p_ok.within, (c.requires.q_ok.within, (c.requires.s_ok.within, tt))))))) refl

pub overflow_cast-q : goal.overflow_cast-q
unfolding bounds
overflow_cast-q c = cast_fits w128 (c.args.pp ∷ c.args.pq ∷ c.args.ps ∷ c.args.qs ∷ c.args.p ∷ c.args.q ∷ c.args.s ∷ []) bounds (Read w64 5) (c.requires.pp_ok.within, (c.requires.pq_ok.within, (c.requires.ps_ok.within, (c.requires.qs_ok.within, (c.requires.p_ok.within, (c.requires.q_ok.within, (c.requires.s_ok.within, tt))))))) refl

pub overflow_cast-s : goal.overflow_cast-s
unfolding bounds
overflow_cast-s c = cast_fits w128 (c.args.pp ∷ c.args.pq ∷ c.args.ps ∷ c.args.qs ∷ c.args.p ∷ c.args.q ∷ c.args.s ∷ []) bounds (Read w64 6) (c.requires.pp_ok.within, (c.requires.pq_ok.within, (c.requires.ps_ok.within, (c.requires.qs_ok.within, (c.requires.p_ok.within, (c.requires.q_ok.within, (c.requires.s_ok.within, tt))))))) refl

pub overflow_mul-result : goal.overflow_mul-result
unfolding bounds
overflow_mul-result c = prod_fits w128 (c.args.pp ∷ c.args.pq ∷ c.args.ps ∷ c.args.qs ∷ c.args.p ∷ c.args.q ∷ c.args.s ∷ []) bounds (Cast w128 (Read w64 4)) (Cast w128 (Read w64 4)) (c.requires.pp_ok.within, (c.requires.pq_ok.within, (c.requires.ps_ok.within, (c.requires.qs_ok.within, (c.requires.p_ok.within, (c.requires.q_ok.within, (c.requires.s_ok.within, tt))))))) refl

pub overflow_mul-result-2 : goal.overflow_mul-result-2
unfolding bounds
overflow_mul-result-2 c = prod_fits w128 (c.args.pp ∷ c.args.pq ∷ c.args.ps ∷ c.args.qs ∷ c.args.p ∷ c.args.q ∷ c.args.s ∷ []) bounds (Prod w128 (Cast w128 (Read w64 4)) (Cast w128 (Read w64 4))) (Read w128 3) (c.requires.pp_ok.within, (c.requires.pq_ok.within, (c.requires.ps_ok.within, (c.requires.qs_ok.within, (c.requires.p_ok.within, (c.requires.q_ok.within, (c.requires.s_ok.within, tt))))))) refl

pub overflow_mul-result-3 : goal.overflow_mul-result-3
unfolding bounds
overflow_mul-result-3 c = prod_fits w128 (c.args.pp ∷ c.args.pq ∷ c.args.ps ∷ c.args.qs ∷ c.args.p ∷ c.args.q ∷ c.args.s ∷ []) bounds (Cast w128 (Read w64 4)) (Cast w128 (Read w64 6)) (c.requires.pp_ok.within, (c.requires.pq_ok.within, (c.requires.ps_ok.within, (c.requires.qs_ok.within, (c.requires.p_ok.within, (c.requires.q_ok.within, (c.requires.s_ok.within, tt))))))) refl

pub overflow_mul-result-4 : goal.overflow_mul-result-4
unfolding bounds
overflow_mul-result-4 c = prod_fits w128 (c.args.pp ∷ c.args.pq ∷ c.args.ps ∷ c.args.qs ∷ c.args.p ∷ c.args.q ∷ c.args.s ∷ []) bounds (Prod w128 (Cast w128 (Read w64 4)) (Cast w128 (Read w64 6))) (Read w128 1) (c.requires.pp_ok.within, (c.requires.pq_ok.within, (c.requires.ps_ok.within, (c.requires.qs_ok.within, (c.requires.p_ok.within, (c.requires.q_ok.within, (c.requires.s_ok.within, tt))))))) refl

pub overflow_sub-result : goal.overflow_sub-result
unfolding bounds
overflow_sub-result c = diff_fits w128 (c.args.pp ∷ c.args.pq ∷ c.args.ps ∷ c.args.qs ∷ c.args.p ∷ c.args.q ∷ c.args.s ∷ []) bounds (Prod w128 (Prod w128 (Cast w128 (Read w64 4)) (Cast w128 (Read w64 4))) (Read w128 3)) (Prod w128 (Prod w128 (Cast w128 (Read w64 4)) (Cast w128 (Read w64 6))) (Read w128 1)) (c.requires.pp_ok.within, (c.requires.pq_ok.within, (c.requires.ps_ok.within, (c.requires.qs_ok.within, (c.requires.p_ok.within, (c.requires.q_ok.within, (c.requires.s_ok.within, tt))))))) refl

pub overflow_mul-result-5 : goal.overflow_mul-result-5
unfolding bounds
overflow_mul-result-5 c = prod_fits w128 (c.args.pp ∷ c.args.pq ∷ c.args.ps ∷ c.args.qs ∷ c.args.p ∷ c.args.q ∷ c.args.s ∷ []) bounds (Cast w128 (Read w64 4)) (Cast w128 (Read w64 5)) (c.requires.pp_ok.within, (c.requires.pq_ok.within, (c.requires.ps_ok.within, (c.requires.qs_ok.within, (c.requires.p_ok.within, (c.requires.q_ok.within, (c.requires.s_ok.within, tt))))))) refl

pub overflow_mul-result-6 : goal.overflow_mul-result-6
unfolding bounds
overflow_mul-result-6 c = prod_fits w128 (c.args.pp ∷ c.args.pq ∷ c.args.ps ∷ c.args.qs ∷ c.args.p ∷ c.args.q ∷ c.args.s ∷ []) bounds (Prod w128 (Cast w128 (Read w64 4)) (Cast w128 (Read w64 5))) (Read w128 2) (c.requires.pp_ok.within, (c.requires.pq_ok.within, (c.requires.ps_ok.within, (c.requires.qs_ok.within, (c.requires.p_ok.within, (c.requires.q_ok.within, (c.requires.s_ok.within, tt))))))) refl

pub overflow_sub-result-2 : goal.overflow_sub-result-2
unfolding bounds
overflow_sub-result-2 c = diff_fits w128 (c.args.pp ∷ c.args.pq ∷ c.args.ps ∷ c.args.qs ∷ c.args.p ∷ c.args.q ∷ c.args.s ∷ []) bounds (Diff w128 (Prod w128 (Prod w128 (Cast w128 (Read w64 4)) (Cast w128 (Read w64 4))) (Read w128 3)) (Prod w128 (Prod w128 (Cast w128 (Read w64 4)) (Cast w128 (Read w64 6))) (Read w128 1))) (Prod w128 (Prod w128 (Cast w128 (Read w64 4)) (Cast w128 (Read w64 5))) (Read w128 2)) (c.requires.pp_ok.within, (c.requires.pq_ok.within, (c.requires.ps_ok.within, (c.requires.qs_ok.within, (c.requires.p_ok.within, (c.requires.q_ok.within, (c.requires.s_ok.within, tt))))))) refl

pub overflow_mul-result-7 : goal.overflow_mul-result-7
unfolding bounds
overflow_mul-result-7 c = prod_fits w128 (c.args.pp ∷ c.args.pq ∷ c.args.ps ∷ c.args.qs ∷ c.args.p ∷ c.args.q ∷ c.args.s ∷ []) bounds (Cast w128 (Read w64 5)) (Cast w128 (Read w64 6)) (c.requires.pp_ok.within, (c.requires.pq_ok.within, (c.requires.ps_ok.within, (c.requires.qs_ok.within, (c.requires.p_ok.within, (c.requires.q_ok.within, (c.requires.s_ok.within, tt))))))) refl

pub overflow_mul-result-8 : goal.overflow_mul-result-8
unfolding bounds
overflow_mul-result-8 c = prod_fits w128 (c.args.pp ∷ c.args.pq ∷ c.args.ps ∷ c.args.qs ∷ c.args.p ∷ c.args.q ∷ c.args.s ∷ []) bounds (Prod w128 (Cast w128 (Read w64 5)) (Cast w128 (Read w64 6))) (Read w128 0) (c.requires.pp_ok.within, (c.requires.pq_ok.within, (c.requires.ps_ok.within, (c.requires.qs_ok.within, (c.requires.p_ok.within, (c.requires.q_ok.within, (c.requires.s_ok.within, tt))))))) refl

pub overflow_add-result : goal.overflow_add-result
unfolding bounds
overflow_add-result c = sum_fits w128 (c.args.pp ∷ c.args.pq ∷ c.args.ps ∷ c.args.qs ∷ c.args.p ∷ c.args.q ∷ c.args.s ∷ []) bounds (Diff w128 (Diff w128 (Prod w128 (Prod w128 (Cast w128 (Read w64 4)) (Cast w128 (Read w64 4))) (Read w128 3)) (Prod w128 (Prod w128 (Cast w128 (Read w64 4)) (Cast w128 (Read w64 6))) (Read w128 1))) (Prod w128 (Prod w128 (Cast w128 (Read w64 4)) (Cast w128 (Read w64 5))) (Read w128 2))) (Prod w128 (Prod w128 (Cast w128 (Read w64 5)) (Cast w128 (Read w64 6))) (Read w128 0)) (c.requires.pp_ok.within, (c.requires.pq_ok.within, (c.requires.ps_ok.within, (c.requires.qs_ok.within, (c.requires.p_ok.within, (c.requires.q_ok.within, (c.requires.s_ok.within, tt))))))) refl

pub returns-clause-value : goal.returns-clause-value
unfolding bounds
returns-clause-value c = exact (c.args.pp ∷ c.args.pq ∷ c.args.ps ∷ c.args.qs ∷ c.args.p ∷ c.args.q ∷ c.args.s ∷ []) bounds (Sum w128 (Diff w128 (Diff w128 (Prod w128 (Prod w128 (Cast w128 (Read w64 4)) (Cast w128 (Read w64 4))) (Read w128 3)) (Prod w128 (Prod w128 (Cast w128 (Read w64 4)) (Cast w128 (Read w64 6))) (Read w128 1))) (Prod w128 (Prod w128 (Cast w128 (Read w64 4)) (Cast w128 (Read w64 5))) (Read w128 2))) (Prod w128 (Prod w128 (Cast w128 (Read w64 5)) (Cast w128 (Read w64 6))) (Read w128 0))) (c.requires.pp_ok.within, (c.requires.pq_ok.within, (c.requires.ps_ok.within, (c.requires.qs_ok.within, (c.requires.p_ok.within, (c.requires.q_ok.within, (c.requires.s_ok.within, tt))))))) refl

pub returns-clause-bound : goal.returns-clause-bound
unfolding bounds
returns-clause-bound c = record { within = stays (c.args.pp ∷ c.args.pq ∷ c.args.ps ∷ c.args.qs ∷ c.args.p ∷ c.args.q ∷ c.args.s ∷ []) bounds (Sum w128 (Diff w128 (Diff w128 (Prod w128 (Prod w128 (Cast w128 (Read w64 4)) (Cast w128 (Read w64 4))) (Read w128 3)) (Prod w128 (Prod w128 (Cast w128 (Read w64 4)) (Cast w128 (Read w64 6))) (Read w128 1))) (Prod w128 (Prod w128 (Cast w128 (Read w64 4)) (Cast w128 (Read w64 5))) (Read w128 2))) (Prod w128 (Prod w128 (Cast w128 (Read w64 5)) (Cast w128 (Read w64 6))) (Read w128 0))) most_mixed_form (c.requires.pp_ok.within, (c.requires.pq_ok.within, (c.requires.ps_ok.within, (c.requires.qs_ok.within, (c.requires.p_ok.within, (c.requires.q_ok.within, (c.requires.s_ok.within, tt))))))) refl }
