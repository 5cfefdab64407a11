use Rattle.std.proofs.Common.{[], ◌∷◌, refl, w64}
use mir.Syntax.{w128}
use lib.IntN.{pos}
use Rattle.mill_base.proofs.Machine.{Read, Lit, Cast, Sum, Diff, Prod, exact, sum_fits}
use Rattle.mill_geom.specs.Widths.{most_form, farthest}
use Rattle.mill_geom.proofs.segment.cut_mid.Goals as goal

pub overflow_add-result : goal.overflow_add-result
overflow_add-result c = sum_fits w128 (c.args.a ∷ c.args.h ∷ c.args.z ∷ c.args.w ∷ []) (most_form ∷ most_form ∷ farthest ∷ farthest ∷ []) (Prod w128 (Diff w128 (Lit (pos 0)) (Cast w128 (Read w64 3))) (Read w128 0)) (Prod w128 (Cast w128 (Read w64 2)) (Read w128 1)) (c.requires.a_ok.within, (c.requires.h_ok.within, (c.requires.z_ok.within, (c.requires.w_ok.within, tt)))) refl

pub returns : goal.returns
returns c = exact (c.args.a ∷ c.args.h ∷ c.args.z ∷ c.args.w ∷ []) (most_form ∷ most_form ∷ farthest ∷ farthest ∷ []) (Sum w128 (Prod w128 (Diff w128 (Lit (pos 0)) (Cast w128 (Read w64 3))) (Read w128 0)) (Prod w128 (Cast w128 (Read w64 2)) (Read w128 1))) (c.requires.a_ok.within, (c.requires.h_ok.within, (c.requires.z_ok.within, (c.requires.w_ok.within, tt)))) refl
