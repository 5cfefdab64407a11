use Rattle.std.proofs.Common.{[], ◌∷◌, refl, w64}
use mir.Syntax.{w128}
use lib.IntN.{pos}
use Rattle.mill_base.proofs.Machine.{Read, Lit, Cast, Sum, Diff, Prod, exact, sum_fits, prod_fits}
use Rattle.mill_geom.specs.Widths.{most_form, farthest}
use Rattle.mill_geom.proofs.segment.cut_end.Goals as goal

pub overflow_mul-result-2 : goal.overflow_mul-result-2
overflow_mul-result-2 c = prod_fits w128 (c.args.a ∷ c.args.h ∷ c.args.b ∷ c.args.z ∷ c.args.w ∷ []) (most_form ∷ most_form ∷ most_form ∷ farthest ∷ farthest ∷ []) (Prod w128 (Diff w128 (Lit (pos 0)) (Cast w128 (Read w64 4))) (Diff w128 (Lit (pos 0)) (Cast w128 (Read w64 4)))) (Read w128 0) (c.requires.a_ok.within, (c.requires.h_ok.within, (c.requires.b_ok.within, (c.requires.z_ok.within, (c.requires.w_ok.within, tt))))) refl

pub overflow_mul-result-4 : goal.overflow_mul-result-4
overflow_mul-result-4 c = prod_fits w128 (c.args.a ∷ c.args.h ∷ c.args.b ∷ c.args.z ∷ c.args.w ∷ []) (most_form ∷ most_form ∷ most_form ∷ farthest ∷ farthest ∷ []) (Prod w128 (Cast w128 (Read w64 3)) (Diff w128 (Lit (pos 0)) (Cast w128 (Read w64 4)))) (Read w128 1) (c.requires.a_ok.within, (c.requires.h_ok.within, (c.requires.b_ok.within, (c.requires.z_ok.within, (c.requires.w_ok.within, tt))))) refl

pub overflow_mul-result-5 : goal.overflow_mul-result-5
overflow_mul-result-5 c = prod_fits w128 (c.args.a ∷ c.args.h ∷ c.args.b ∷ c.args.z ∷ c.args.w ∷ []) (most_form ∷ most_form ∷ most_form ∷ farthest ∷ farthest ∷ []) (Lit (pos 2)) (Prod w128 (Prod w128 (Cast w128 (Read w64 3)) (Diff w128 (Lit (pos 0)) (Cast w128 (Read w64 4)))) (Read w128 1)) (c.requires.a_ok.within, (c.requires.h_ok.within, (c.requires.b_ok.within, (c.requires.z_ok.within, (c.requires.w_ok.within, tt))))) refl

pub overflow_add-result : goal.overflow_add-result
overflow_add-result c = sum_fits w128 (c.args.a ∷ c.args.h ∷ c.args.b ∷ c.args.z ∷ c.args.w ∷ []) (most_form ∷ most_form ∷ most_form ∷ farthest ∷ farthest ∷ []) (Prod w128 (Prod w128 (Diff w128 (Lit (pos 0)) (Cast w128 (Read w64 4))) (Diff w128 (Lit (pos 0)) (Cast w128 (Read w64 4)))) (Read w128 0)) (Prod w128 (Lit (pos 2)) (Prod w128 (Prod w128 (Cast w128 (Read w64 3)) (Diff w128 (Lit (pos 0)) (Cast w128 (Read w64 4)))) (Read w128 1))) (c.requires.a_ok.within, (c.requires.h_ok.within, (c.requires.b_ok.within, (c.requires.z_ok.within, (c.requires.w_ok.within, tt))))) refl

pub overflow_mul-result-7 : goal.overflow_mul-result-7
overflow_mul-result-7 c = prod_fits w128 (c.args.a ∷ c.args.h ∷ c.args.b ∷ c.args.z ∷ c.args.w ∷ []) (most_form ∷ most_form ∷ most_form ∷ farthest ∷ farthest ∷ []) (Prod w128 (Cast w128 (Read w64 3)) (Cast w128 (Read w64 3))) (Read w128 2) (c.requires.a_ok.within, (c.requires.h_ok.within, (c.requires.b_ok.within, (c.requires.z_ok.within, (c.requires.w_ok.within, tt))))) refl

pub overflow_add-result-2 : goal.overflow_add-result-2
overflow_add-result-2 c = sum_fits w128 (c.args.a ∷ c.args.h ∷ c.args.b ∷ c.args.z ∷ c.args.w ∷ []) (most_form ∷ most_form ∷ most_form ∷ farthest ∷ farthest ∷ []) (Sum w128 (Prod w128 (Prod w128 (Diff w128 (Lit (pos 0)) (Cast w128 (Read w64 4))) (Diff w128 (Lit (pos 0)) (Cast w128 (Read w64 4)))) (Read w128 0)) (Prod w128 (Lit (pos 2)) (Prod w128 (Prod w128 (Cast w128 (Read w64 3)) (Diff w128 (Lit (pos 0)) (Cast w128 (Read w64 4)))) (Read w128 1)))) (Prod w128 (Prod w128 (Cast w128 (Read w64 3)) (Cast w128 (Read w64 3))) (Read w128 2)) (c.requires.a_ok.within, (c.requires.h_ok.within, (c.requires.b_ok.within, (c.requires.z_ok.within, (c.requires.w_ok.within, tt))))) refl

pub returns : goal.returns
returns c = exact (c.args.a ∷ c.args.h ∷ c.args.b ∷ c.args.z ∷ c.args.w ∷ []) (most_form ∷ most_form ∷ most_form ∷ farthest ∷ farthest ∷ []) (Sum w128 (Sum w128 (Prod w128 (Prod w128 (Diff w128 (Lit (pos 0)) (Cast w128 (Read w64 4))) (Diff w128 (Lit (pos 0)) (Cast w128 (Read w64 4)))) (Read w128 0)) (Prod w128 (Lit (pos 2)) (Prod w128 (Prod w128 (Cast w128 (Read w64 3)) (Diff w128 (Lit (pos 0)) (Cast w128 (Read w64 4)))) (Read w128 1)))) (Prod w128 (Prod w128 (Cast w128 (Read w64 3)) (Cast w128 (Read w64 3))) (Read w128 2))) (c.requires.a_ok.within, (c.requires.h_ok.within, (c.requires.b_ok.within, (c.requires.z_ok.within, (c.requires.w_ok.within, tt))))) refl
