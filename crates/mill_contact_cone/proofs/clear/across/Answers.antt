use Rattle.std.proofs.Common.{ℕ, List, [], ◌∷◌, refl, w64}
use Rattle.mill_base.proofs.Machine.{Read, Prod, exact, stays, prod_fits}
use Rattle.mill_contact_cone.proofs.Sizes.{rise_within}
use Rattle.mill_geom.specs.Widths.{most_area}
use Rattle.mill_contact_cone.specs.inner.Widths.{steepest, most_steep}
use Rattle.mill_contact_cone.proofs.clear.across.Goals as goal

-- how far each number is from 0
bounds : List ℕ
bounds = steepest ∷ most_area ∷ []

pub overflow_mul-result-2 : goal.overflow_mul-result-2
unfolding bounds
overflow_mul-result-2 c = prod_fits w64 (c.args.cone.rise ∷ c.args.gap ∷ []) bounds (Prod w64 (Read w64 0) (Read w64 0)) (Read w64 1) (rise_within c.args.cone c.requires.cone_ok, (c.requires.gap_ok.within, tt)) refl

pub returns-clause-value : goal.returns-clause-value
unfolding bounds
returns-clause-value c = exact (c.args.cone.rise ∷ c.args.gap ∷ []) bounds (Prod w64 (Prod w64 (Read w64 0) (Read w64 0)) (Read w64 1)) (rise_within c.args.cone c.requires.cone_ok, (c.requires.gap_ok.within, tt)) refl

pub returns-clause-bound : goal.returns-clause-bound
unfolding bounds
returns-clause-bound c = record { within = stays (c.args.cone.rise ∷ c.args.gap ∷ []) bounds (Prod w64 (Prod w64 (Read w64 0) (Read w64 0)) (Read w64 1)) most_steep (rise_within c.args.cone c.requires.cone_ok, (c.requires.gap_ok.within, tt)) refl }
