use Rattle.std.proofs.Common.{ℕ, List, [], ◌∷◌, refl, w64}
use Rattle.mill_base.proofs.Machine.{Read, Diff, Prod, exact, stays, diff_fits, prod_fits}
use Rattle.mill_contact_cone.proofs.Sizes.{radius_within, rise_within, run_within}
use Rattle.mill_geom.specs.Widths.{farthest, widest, most_lift}
use Rattle.mill_contact_cone.specs.inner.Widths.{steepest}
use Rattle.mill_contact_cone.proofs.corner.over.Goals as goal

-- how far each number is from 0
bounds : List ℕ
bounds = farthest ∷ widest ∷ steepest ∷ steepest ∷ []

pub overflow_mul-result : goal.overflow_mul-result
unfolding bounds
overflow_mul-result c = prod_fits w64 (c.args.z ∷ c.args.cone.radius ∷ c.args.cone.rise ∷ c.args.cone.run ∷ []) bounds (Read w64 3) (Read w64 0) (c.requires.z_ok.within, (radius_within c.args.cone c.requires.cone_ok, (rise_within c.args.cone c.requires.cone_ok, (run_within c.args.cone c.requires.cone_ok, tt)))) refl

pub overflow_mul-result-2 : goal.overflow_mul-result-2
unfolding bounds
overflow_mul-result-2 c = prod_fits w64 (c.args.z ∷ c.args.cone.radius ∷ c.args.cone.rise ∷ c.args.cone.run ∷ []) bounds (Read w64 2) (Read w64 1) (c.requires.z_ok.within, (radius_within c.args.cone c.requires.cone_ok, (rise_within c.args.cone c.requires.cone_ok, (run_within c.args.cone c.requires.cone_ok, tt)))) refl

pub overflow_sub-result : goal.overflow_sub-result
unfolding bounds
overflow_sub-result c = diff_fits w64 (c.args.z ∷ c.args.cone.radius ∷ c.args.cone.rise ∷ c.args.cone.run ∷ []) bounds (Prod w64 (Read w64 3) (Read w64 0)) (Prod w64 (Read w64 2) (Read w64 1)) (c.requires.z_ok.within, (radius_within c.args.cone c.requires.cone_ok, (rise_within c.args.cone c.requires.cone_ok, (run_within c.args.cone c.requires.cone_ok, tt)))) refl

pub returns-clause-value : goal.returns-clause-value
unfolding bounds
returns-clause-value c = exact (c.args.z ∷ c.args.cone.radius ∷ c.args.cone.rise ∷ c.args.cone.run ∷ []) bounds (Diff w64 (Prod w64 (Read w64 3) (Read w64 0)) (Prod w64 (Read w64 2) (Read w64 1))) (c.requires.z_ok.within, (radius_within c.args.cone c.requires.cone_ok, (rise_within c.args.cone c.requires.cone_ok, (run_within c.args.cone c.requires.cone_ok, tt)))) refl

pub returns-clause-bound : goal.returns-clause-bound
unfolding bounds
returns-clause-bound c = record { within = stays (c.args.z ∷ c.args.cone.radius ∷ c.args.cone.rise ∷ c.args.cone.run ∷ []) bounds (Diff w64 (Prod w64 (Read w64 3) (Read w64 0)) (Prod w64 (Read w64 2) (Read w64 1))) most_lift (c.requires.z_ok.within, (radius_within c.args.cone c.requires.cone_ok, (rise_within c.args.cone c.requires.cone_ok, (run_within c.args.cone c.requires.cone_ok, tt)))) refl }
