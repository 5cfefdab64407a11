use Rattle.std.proofs.Common.{[], ◌∷◌, refl, w64}
use Rattle.mill_base.proofs.Machine.{Read, Diff, Prod, exact, diff_fits, stays}
use Rattle.mill_geom.specs.Widths.{farthest, most_area}
use Rattle.mill_contact_ball.proofs.vector.minor.Goals as goal

pub overflow_sub-result : goal.overflow_sub-result
overflow_sub-result c =
    diff_fits w64 (c.args.a ∷ c.args.b ∷ c.args.c ∷ c.args.d ∷ []) (farthest ∷ farthest ∷ farthest ∷ farthest ∷ []) (Prod w64 (Read w64 0) (Read w64 1)) (Prod w64 (Read w64 2) (Read w64 3))
    (c.requires.a_ok.within, (c.requires.b_ok.within, (c.requires.c_ok.within, (c.requires.d_ok.within, tt)))) refl

pub returns-clause-value : goal.returns-clause-value
returns-clause-value c =
    exact (c.args.a ∷ c.args.b ∷ c.args.c ∷ c.args.d ∷ []) (farthest ∷ farthest ∷ farthest ∷ farthest ∷ []) (Diff w64 (Prod w64 (Read w64 0) (Read w64 1)) (Prod w64 (Read w64 2) (Read w64 3)))
    (c.requires.a_ok.within, (c.requires.b_ok.within, (c.requires.c_ok.within, (c.requires.d_ok.within, tt)))) refl

pub returns-clause-bound : goal.returns-clause-bound
returns-clause-bound c = record {
  within = stays (c.args.a ∷ c.args.b ∷ c.args.c ∷ c.args.d ∷ []) (farthest ∷ farthest ∷ farthest ∷ farthest ∷ []) (Diff w64 (Prod w64 (Read w64 0) (Read w64 1)) (Prod w64 (Read w64 2) (Read w64 3))) most_area
      (c.requires.a_ok.within, (c.requires.b_ok.within, (c.requires.c_ok.within, (c.requires.d_ok.within, tt)))) refl;
}
