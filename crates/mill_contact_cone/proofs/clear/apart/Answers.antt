use Rattle.std.proofs.Common.{ℕ, List, [], ◌∷◌, refl, w64}
use Rattle.mill_base.proofs.Machine.{Read, Sum, Prod, stays}
use Rattle.mill_geom.specs.Widths.{farthest, most_area}
use Rattle.mill_contact_cone.proofs.clear.apart.Goals as goal

-- how far each number is from 0
bounds : List ℕ
bounds = farthest ∷ farthest ∷ []

pub returns-clause-bound : goal.returns-clause-bound
unfolding bounds
returns-clause-bound c = record { within = stays (c.args.p.x ∷ c.args.p.y ∷ []) bounds (Sum w64 (Prod w64 (Read w64 0) (Read w64 0)) (Prod w64 (Read w64 1) (Read w64 1))) most_area (c.requires.p_ok.x_ok.within, (c.requires.p_ok.y_ok.within, tt)) refl }
