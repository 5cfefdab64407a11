use Rattle.std.proofs.Common.{refl, w64}
use Rattle.mill_base.proofs.Machine.{Read, Sum, Diff, Prod, exact, stays, sum_fits, diff_fits, prod_fits}
use Rattle.mill_geom.proofs.Bounds.{space_of, lifted_bounds, lifted_in}
use Rattle.mill_geom.specs.Widths.{most_slope}
use Rattle.mill_geom.proofs.plane.slope_y.Goals as goal

pub overflow_sub-result : goal.overflow_sub-result
overflow_sub-result c = diff_fits w64 (space_of c.args.a c.args.b c.args.c) lifted_bounds (Read w64 7) (Read w64 4) (lifted_in _ _ _ c.requires.a_ok c.requires.b_ok c.requires.c_ok) refl

pub overflow_mul-result : goal.overflow_mul-result
overflow_mul-result c = prod_fits w64 (space_of c.args.a c.args.b c.args.c) lifted_bounds (Read w64 2) (Diff w64 (Read w64 7) (Read w64 4)) (lifted_in _ _ _ c.requires.a_ok c.requires.b_ok c.requires.c_ok) refl

pub overflow_sub-result-2 : goal.overflow_sub-result-2
overflow_sub-result-2 c = diff_fits w64 (space_of c.args.a c.args.b c.args.c) lifted_bounds (Read w64 1) (Read w64 7) (lifted_in _ _ _ c.requires.a_ok c.requires.b_ok c.requires.c_ok) refl

pub overflow_mul-result-2 : goal.overflow_mul-result-2
overflow_mul-result-2 c = prod_fits w64 (space_of c.args.a c.args.b c.args.c) lifted_bounds (Read w64 5) (Diff w64 (Read w64 1) (Read w64 7)) (lifted_in _ _ _ c.requires.a_ok c.requires.b_ok c.requires.c_ok) refl

pub overflow_add-result : goal.overflow_add-result
overflow_add-result c = sum_fits w64 (space_of c.args.a c.args.b c.args.c) lifted_bounds (Prod w64 (Read w64 2) (Diff w64 (Read w64 7) (Read w64 4))) (Prod w64 (Read w64 5) (Diff w64 (Read w64 1) (Read w64 7))) (lifted_in _ _ _ c.requires.a_ok c.requires.b_ok c.requires.c_ok) refl

pub overflow_sub-result-3 : goal.overflow_sub-result-3
overflow_sub-result-3 c = diff_fits w64 (space_of c.args.a c.args.b c.args.c) lifted_bounds (Read w64 4) (Read w64 1) (lifted_in _ _ _ c.requires.a_ok c.requires.b_ok c.requires.c_ok) refl

pub overflow_mul-result-3 : goal.overflow_mul-result-3
overflow_mul-result-3 c = prod_fits w64 (space_of c.args.a c.args.b c.args.c) lifted_bounds (Read w64 8) (Diff w64 (Read w64 4) (Read w64 1)) (lifted_in _ _ _ c.requires.a_ok c.requires.b_ok c.requires.c_ok) refl

pub overflow_add-result-2 : goal.overflow_add-result-2
overflow_add-result-2 c = sum_fits w64 (space_of c.args.a c.args.b c.args.c) lifted_bounds (Sum w64 (Prod w64 (Read w64 2) (Diff w64 (Read w64 7) (Read w64 4))) (Prod w64 (Read w64 5) (Diff w64 (Read w64 1) (Read w64 7)))) (Prod w64 (Read w64 8) (Diff w64 (Read w64 4) (Read w64 1))) (lifted_in _ _ _ c.requires.a_ok c.requires.b_ok c.requires.c_ok) refl

pub returns-clause-value : goal.returns-clause-value
returns-clause-value c = exact (space_of c.args.a c.args.b c.args.c) lifted_bounds (Sum w64 (Sum w64 (Prod w64 (Read w64 2) (Diff w64 (Read w64 7) (Read w64 4))) (Prod w64 (Read w64 5) (Diff w64 (Read w64 1) (Read w64 7)))) (Prod w64 (Read w64 8) (Diff w64 (Read w64 4) (Read w64 1)))) (lifted_in _ _ _ c.requires.a_ok c.requires.b_ok c.requires.c_ok) refl

pub returns-clause-bound : goal.returns-clause-bound
returns-clause-bound c = record { within = stays (space_of c.args.a c.args.b c.args.c) lifted_bounds (Sum w64 (Sum w64 (Prod w64 (Read w64 2) (Diff w64 (Read w64 7) (Read w64 4))) (Prod w64 (Read w64 5) (Diff w64 (Read w64 1) (Read w64 7)))) (Prod w64 (Read w64 8) (Diff w64 (Read w64 4) (Read w64 1)))) most_slope (lifted_in _ _ _ c.requires.a_ok c.requires.b_ok c.requires.c_ok) refl }
