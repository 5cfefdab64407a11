use Rattle.std.proofs.Common.{refl, w64}
use Rattle.mill_base.proofs.Machine.{Read, Diff, Prod, exact, stays, diff_fits, prod_fits}
use Rattle.mill_geom.proofs.Bounds.{plan_of, plan_bounds, plan_in}
use Rattle.mill_geom.specs.Widths.{most_area}
use Rattle.mill_geom.proofs.plane.cross.Goals as goal

pub overflow_mul-result : goal.overflow_mul-result
overflow_mul-result c = prod_fits w64 (plan_of c.args.p c.args.q) plan_bounds (Read w64 0) (Read w64 3) (plan_in _ _ c.requires.p_ok c.requires.q_ok) refl

pub overflow_mul-result-2 : goal.overflow_mul-result-2
overflow_mul-result-2 c = prod_fits w64 (plan_of c.args.p c.args.q) plan_bounds (Read w64 1) (Read w64 2) (plan_in _ _ c.requires.p_ok c.requires.q_ok) refl

pub overflow_sub-result : goal.overflow_sub-result
overflow_sub-result c = diff_fits w64 (plan_of c.args.p c.args.q) plan_bounds (Prod w64 (Read w64 0) (Read w64 3)) (Prod w64 (Read w64 1) (Read w64 2)) (plan_in _ _ c.requires.p_ok c.requires.q_ok) refl

pub returns-clause-value : goal.returns-clause-value
returns-clause-value c = exact (plan_of c.args.p c.args.q) plan_bounds (Diff w64 (Prod w64 (Read w64 0) (Read w64 3)) (Prod w64 (Read w64 1) (Read w64 2))) (plan_in _ _ c.requires.p_ok c.requires.q_ok) refl

pub returns-clause-bound : goal.returns-clause-bound
returns-clause-bound c = record { within = stays (plan_of c.args.p c.args.q) plan_bounds (Diff w64 (Prod w64 (Read w64 0) (Read w64 3)) (Prod w64 (Read w64 1) (Read w64 2))) most_area (plan_in _ _ c.requires.p_ok c.requires.q_ok) refl }
