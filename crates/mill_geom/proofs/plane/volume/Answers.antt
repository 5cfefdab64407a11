use Rattle.std.proofs.Common.{refl, w64}
use Rattle.mill_base.proofs.Machine.{Read, Sum, Diff, Prod, exact, stays, sum_fits, diff_fits, prod_fits}
use Rattle.mill_geom.proofs.Bounds.{space_of, space_bounds, space_in}
use Rattle.mill_geom.specs.Widths.{most_volume}
use Rattle.mill_geom.proofs.plane.volume.Goals as goal

pub overflow_mul-result : goal.overflow_mul-result
overflow_mul-result c = prod_fits w64 (space_of c.args.a c.args.b c.args.c) space_bounds (Read w64 3) (Read w64 7) (space_in _ _ _ c.requires.a_ok c.requires.b_ok c.requires.c_ok) refl

pub overflow_mul-result-2 : goal.overflow_mul-result-2
overflow_mul-result-2 c = prod_fits w64 (space_of c.args.a c.args.b c.args.c) space_bounds (Read w64 4) (Read w64 6) (space_in _ _ _ c.requires.a_ok c.requires.b_ok c.requires.c_ok) refl

pub overflow_sub-result : goal.overflow_sub-result
overflow_sub-result c = diff_fits w64 (space_of c.args.a c.args.b c.args.c) space_bounds (Prod w64 (Read w64 3) (Read w64 7)) (Prod w64 (Read w64 4) (Read w64 6)) (space_in _ _ _ c.requires.a_ok c.requires.b_ok c.requires.c_ok) refl

pub overflow_mul-result-3 : goal.overflow_mul-result-3
overflow_mul-result-3 c = prod_fits w64 (space_of c.args.a c.args.b c.args.c) space_bounds (Diff w64 (Prod w64 (Read w64 3) (Read w64 7)) (Prod w64 (Read w64 4) (Read w64 6))) (Read w64 2) (space_in _ _ _ c.requires.a_ok c.requires.b_ok c.requires.c_ok) refl

pub overflow_mul-result-4 : goal.overflow_mul-result-4
overflow_mul-result-4 c = prod_fits w64 (space_of c.args.a c.args.b c.args.c) space_bounds (Read w64 6) (Read w64 1) (space_in _ _ _ c.requires.a_ok c.requires.b_ok c.requires.c_ok) refl

pub overflow_mul-result-5 : goal.overflow_mul-result-5
overflow_mul-result-5 c = prod_fits w64 (space_of c.args.a c.args.b c.args.c) space_bounds (Read w64 7) (Read w64 0) (space_in _ _ _ c.requires.a_ok c.requires.b_ok c.requires.c_ok) refl

pub overflow_sub-result-2 : goal.overflow_sub-result-2
overflow_sub-result-2 c = diff_fits w64 (space_of c.args.a c.args.b c.args.c) space_bounds (Prod w64 (Read w64 6) (Read w64 1)) (Prod w64 (Read w64 7) (Read w64 0)) (space_in _ _ _ c.requires.a_ok c.requires.b_ok c.requires.c_ok) refl

pub overflow_mul-result-6 : goal.overflow_mul-result-6
overflow_mul-result-6 c = prod_fits w64 (space_of c.args.a c.args.b c.args.c) space_bounds (Diff w64 (Prod w64 (Read w64 6) (Read w64 1)) (Prod w64 (Read w64 7) (Read w64 0))) (Read w64 5) (space_in _ _ _ c.requires.a_ok c.requires.b_ok c.requires.c_ok) refl

pub overflow_add-result : goal.overflow_add-result
overflow_add-result c = sum_fits w64 (space_of c.args.a c.args.b c.args.c) space_bounds (Prod w64 (Diff w64 (Prod w64 (Read w64 3) (Read w64 7)) (Prod w64 (Read w64 4) (Read w64 6))) (Read w64 2)) (Prod w64 (Diff w64 (Prod w64 (Read w64 6) (Read w64 1)) (Prod w64 (Read w64 7) (Read w64 0))) (Read w64 5)) (space_in _ _ _ c.requires.a_ok c.requires.b_ok c.requires.c_ok) refl

pub overflow_mul-result-7 : goal.overflow_mul-result-7
overflow_mul-result-7 c = prod_fits w64 (space_of c.args.a c.args.b c.args.c) space_bounds (Read w64 0) (Read w64 4) (space_in _ _ _ c.requires.a_ok c.requires.b_ok c.requires.c_ok) refl

pub overflow_mul-result-8 : goal.overflow_mul-result-8
overflow_mul-result-8 c = prod_fits w64 (space_of c.args.a c.args.b c.args.c) space_bounds (Read w64 1) (Read w64 3) (space_in _ _ _ c.requires.a_ok c.requires.b_ok c.requires.c_ok) refl

pub overflow_sub-result-3 : goal.overflow_sub-result-3
overflow_sub-result-3 c = diff_fits w64 (space_of c.args.a c.args.b c.args.c) space_bounds (Prod w64 (Read w64 0) (Read w64 4)) (Prod w64 (Read w64 1) (Read w64 3)) (space_in _ _ _ c.requires.a_ok c.requires.b_ok c.requires.c_ok) refl

pub overflow_mul-result-9 : goal.overflow_mul-result-9
overflow_mul-result-9 c = prod_fits w64 (space_of c.args.a c.args.b c.args.c) space_bounds (Diff w64 (Prod w64 (Read w64 0) (Read w64 4)) (Prod w64 (Read w64 1) (Read w64 3))) (Read w64 8) (space_in _ _ _ c.requires.a_ok c.requires.b_ok c.requires.c_ok) refl

pub overflow_add-result-2 : goal.overflow_add-result-2
overflow_add-result-2 c = sum_fits w64 (space_of c.args.a c.args.b c.args.c) space_bounds (Sum w64 (Prod w64 (Diff w64 (Prod w64 (Read w64 3) (Read w64 7)) (Prod w64 (Read w64 4) (Read w64 6))) (Read w64 2)) (Prod w64 (Diff w64 (Prod w64 (Read w64 6) (Read w64 1)) (Prod w64 (Read w64 7) (Read w64 0))) (Read w64 5))) (Prod w64 (Diff w64 (Prod w64 (Read w64 0) (Read w64 4)) (Prod w64 (Read w64 1) (Read w64 3))) (Read w64 8)) (space_in _ _ _ c.requires.a_ok c.requires.b_ok c.requires.c_ok) refl

pub returns-clause-value : goal.returns-clause-value
returns-clause-value c = exact (space_of c.args.a c.args.b c.args.c) space_bounds (Sum w64 (Sum w64 (Prod w64 (Diff w64 (Prod w64 (Read w64 3) (Read w64 7)) (Prod w64 (Read w64 4) (Read w64 6))) (Read w64 2)) (Prod w64 (Diff w64 (Prod w64 (Read w64 6) (Read w64 1)) (Prod w64 (Read w64 7) (Read w64 0))) (Read w64 5))) (Prod w64 (Diff w64 (Prod w64 (Read w64 0) (Read w64 4)) (Prod w64 (Read w64 1) (Read w64 3))) (Read w64 8))) (space_in _ _ _ c.requires.a_ok c.requires.b_ok c.requires.c_ok) refl

pub returns-clause-bound : goal.returns-clause-bound
returns-clause-bound c = record { within = stays (space_of c.args.a c.args.b c.args.c) space_bounds (Sum w64 (Sum w64 (Prod w64 (Diff w64 (Prod w64 (Read w64 3) (Read w64 7)) (Prod w64 (Read w64 4) (Read w64 6))) (Read w64 2)) (Prod w64 (Diff w64 (Prod w64 (Read w64 6) (Read w64 1)) (Prod w64 (Read w64 7) (Read w64 0))) (Read w64 5))) (Prod w64 (Diff w64 (Prod w64 (Read w64 0) (Read w64 4)) (Prod w64 (Read w64 1) (Read w64 3))) (Read w64 8))) most_volume (space_in _ _ _ c.requires.a_ok c.requires.b_ok c.requires.c_ok) refl }
