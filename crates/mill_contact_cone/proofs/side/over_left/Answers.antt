use Rattle.std.proofs.Common.{ℕ, List, [], ◌∷◌, refl, w64}
use Rattle.mill_base.proofs.Machine.{Read, Sum, Prod, exact, stays, sum_fits, prod_fits}
use Rattle.mill_contact_cone.proofs.Sizes.{rise_within, run_within}
use Rattle.mill_geom.specs.Widths.{farthest}
use Rattle.mill_contact_cone.specs.inner.Widths.{steepest, most_bound}
use Rattle.mill_contact_cone.proofs.side.over_left.Goals as goal

-- how far each number is from 0
bounds : List ℕ
bounds = farthest ∷ farthest ∷ steepest ∷ steepest ∷ []

pub overflow_mul-result : goal.overflow_mul-result
unfolding bounds
overflow_mul-result c = prod_fits w64 (c.args.p.z ∷ c.args.p.y ∷ c.args.cone.rise ∷ c.args.cone.run ∷ []) bounds (Read w64 3) (Read w64 0) (c.requires.p_ok.z_ok.within, (c.requires.p_ok.y_ok.within, (rise_within c.args.cone c.requires.cone_ok, (run_within c.args.cone c.requires.cone_ok, tt)))) refl

pub overflow_mul-result-2 : goal.overflow_mul-result-2
unfolding bounds
overflow_mul-result-2 c = prod_fits w64 (c.args.p.z ∷ c.args.p.y ∷ c.args.cone.rise ∷ c.args.cone.run ∷ []) bounds (Read w64 2) (Read w64 1) (c.requires.p_ok.z_ok.within, (c.requires.p_ok.y_ok.within, (rise_within c.args.cone c.requires.cone_ok, (run_within c.args.cone c.requires.cone_ok, tt)))) refl

pub overflow_add-result : goal.overflow_add-result
unfolding bounds
overflow_add-result c = sum_fits w64 (c.args.p.z ∷ c.args.p.y ∷ c.args.cone.rise ∷ c.args.cone.run ∷ []) bounds (Prod w64 (Read w64 3) (Read w64 0)) (Prod w64 (Read w64 2) (Read w64 1)) (c.requires.p_ok.z_ok.within, (c.requires.p_ok.y_ok.within, (rise_within c.args.cone c.requires.cone_ok, (run_within c.args.cone c.requires.cone_ok, tt)))) refl

pub returns-clause-value : goal.returns-clause-value
unfolding bounds
returns-clause-value c = exact (c.args.p.z ∷ c.args.p.y ∷ c.args.cone.rise ∷ c.args.cone.run ∷ []) bounds (Sum w64 (Prod w64 (Read w64 3) (Read w64 0)) (Prod w64 (Read w64 2) (Read w64 1))) (c.requires.p_ok.z_ok.within, (c.requires.p_ok.y_ok.within, (rise_within c.args.cone c.requires.cone_ok, (run_within c.args.cone c.requires.cone_ok, tt)))) refl

pub returns-clause-bound : goal.returns-clause-bound
unfolding bounds
returns-clause-bound c = record { within = stays (c.args.p.z ∷ c.args.p.y ∷ c.args.cone.rise ∷ c.args.cone.run ∷ []) bounds (Sum w64 (Prod w64 (Read w64 3) (Read w64 0)) (Prod w64 (Read w64 2) (Read w64 1))) most_bound (c.requires.p_ok.z_ok.within, (c.requires.p_ok.y_ok.within, (rise_within c.args.cone c.requires.cone_ok, (run_within c.args.cone c.requires.cone_ok, tt)))) refl }
