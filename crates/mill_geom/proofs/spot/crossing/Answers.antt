use Rattle.std.proofs.Common.{ℕ, List, [], ◌∷◌, refl, w64}
use lib.IntN.{pos}
use Rattle.mill_base.proofs.Machine.{Read, Lit, Sum, Diff, Prod, exact, stays, sum_fits}
use Rattle.mill_geom.specs.Widths.{most_area, farthest}
use Rattle.mill_geom.proofs.spot.crossing.Goals as goal

-- how far each number is from 0
bounds : List ℕ
bounds = farthest ∷ farthest ∷ farthest ∷ farthest ∷ []

pub overflow_add-result : goal.overflow_add-result
unfolding bounds
overflow_add-result c = sum_fits w64 (c.args.z ∷ c.args.w ∷ c.args.f ∷ c.args.g ∷ []) bounds (Prod w64 (Diff w64 (Lit (pos 0)) (Read w64 1)) (Read w64 2)) (Prod w64 (Read w64 0) (Read w64 3)) (c.requires.z_ok.within, (c.requires.w_ok.within, (c.requires.f_ok.within, (c.requires.g_ok.within, tt)))) refl

pub returns-clause-value : goal.returns-clause-value
unfolding bounds
returns-clause-value c = exact (c.args.z ∷ c.args.w ∷ c.args.f ∷ c.args.g ∷ []) bounds (Sum w64 (Prod w64 (Diff w64 (Lit (pos 0)) (Read w64 1)) (Read w64 2)) (Prod w64 (Read w64 0) (Read w64 3))) (c.requires.z_ok.within, (c.requires.w_ok.within, (c.requires.f_ok.within, (c.requires.g_ok.within, tt)))) refl

pub returns-clause-bound : goal.returns-clause-bound
unfolding bounds
returns-clause-bound c = record { within = stays (c.args.z ∷ c.args.w ∷ c.args.f ∷ c.args.g ∷ []) bounds (Sum w64 (Prod w64 (Diff w64 (Lit (pos 0)) (Read w64 1)) (Read w64 2)) (Prod w64 (Read w64 0) (Read w64 3))) most_area (c.requires.z_ok.within, (c.requires.w_ok.within, (c.requires.f_ok.within, (c.requires.g_ok.within, tt)))) refl }
