use Rattle.std.proofs.Common.{ℕ, List, [], ◌∷◌, refl, w64}
use Rattle.mill_base.proofs.Machine.{Read, Prod, exact, stays, prod_fits}
use Rattle.mill_contact_cone.proofs.Sizes.{run_within}
use Rattle.mill_geom.specs.Widths.{farthest}
use Rattle.mill_contact_cone.specs.inner.Widths.{steepest, most_steep}
use Rattle.mill_contact_cone.proofs.clear.upward.Goals as goal

-- how far each number is from 0
bounds : List ℕ
bounds = steepest ∷ farthest ∷ []

pub overflow_mul-result-3 : goal.overflow_mul-result-3
unfolding bounds
overflow_mul-result-3 c = prod_fits w64 (c.args.cone.run ∷ c.args.z ∷ []) bounds (Prod w64 (Read w64 0) (Read w64 0)) (Prod w64 (Read w64 1) (Read w64 1)) (run_within c.args.cone c.requires.cone_ok, (c.requires.z_ok.within, tt)) refl

pub returns-clause-value : goal.returns-clause-value
unfolding bounds
returns-clause-value c = exact (c.args.cone.run ∷ c.args.z ∷ []) bounds (Prod w64 (Prod w64 (Read w64 0) (Read w64 0)) (Prod w64 (Read w64 1) (Read w64 1))) (run_within c.args.cone c.requires.cone_ok, (c.requires.z_ok.within, tt)) refl

pub returns-clause-bound : goal.returns-clause-bound
unfolding bounds
returns-clause-bound c = record { within = stays (c.args.cone.run ∷ c.args.z ∷ []) bounds (Prod w64 (Prod w64 (Read w64 0) (Read w64 0)) (Prod w64 (Read w64 1) (Read w64 1))) most_steep (run_within c.args.cone c.requires.cone_ok, (c.requires.z_ok.within, tt)) refl }
