use Rattle.std.proofs.Common.{ℕ, List, [], ◌∷◌, refl, w64}
use Rattle.mill_base.proofs.Machine.{Read, Diff, exact, stays, diff_fits}
use Rattle.mill_contact_cone.proofs.Sizes.{radius_within}
use Rattle.mill_geom.specs.Widths.{farthest, widest}
use Rattle.mill_contact_cone.specs.inner.Widths.{most_bound}
use Rattle.mill_contact_cone.proofs.side.from_right.Goals as goal

-- how far each number is from 0
bounds : List ℕ
bounds = farthest ∷ widest ∷ []

pub overflow_sub-result : goal.overflow_sub-result
unfolding bounds
overflow_sub-result c = diff_fits w64 (c.args.p.y ∷ c.args.cone.radius ∷ []) bounds (Read w64 1) (Read w64 0) (c.requires.p_ok.y_ok.within, (radius_within c.args.cone c.requires.cone_ok, tt)) refl

pub returns-clause-value : goal.returns-clause-value
unfolding bounds
returns-clause-value c = exact (c.args.p.y ∷ c.args.cone.radius ∷ []) bounds (Diff w64 (Read w64 1) (Read w64 0)) (c.requires.p_ok.y_ok.within, (radius_within c.args.cone c.requires.cone_ok, tt)) refl

pub returns-clause-bound : goal.returns-clause-bound
unfolding bounds
returns-clause-bound c = record { within = stays (c.args.p.y ∷ c.args.cone.radius ∷ []) bounds (Diff w64 (Read w64 1) (Read w64 0)) most_bound (c.requires.p_ok.y_ok.within, (radius_within c.args.cone c.requires.cone_ok, tt)) refl }
