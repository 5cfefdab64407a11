use Rattle.std.proofs.Common.{[], ◌∷◌, refl, w64}
use Rattle.mill_base.proofs.Machine.{Read, Sum, Prod, less, sum_fits}
use Rattle.mill_geom.specs.Widths.{farthest, most_area, widest}
use Rattle.mill_contact_ball.proofs.gap.is_close.Goals as goal

pub overflow_add-result : goal.overflow_add-result
overflow_add-result c =
    sum_fits w64 (c.args.height ∷ c.args.gap ∷ c.args.radius ∷ []) (farthest ∷ most_area ∷ widest ∷ []) (Prod w64 (Read w64 0) (Read w64 0)) (Read w64 1) (c.requires.height_ok.within, (c.requires.gap_ok.within, (c.requires.r_ok.within, tt))) refl

pub returns : goal.returns
returns c =
    less (c.args.height ∷ c.args.gap ∷ c.args.radius ∷ []) (farthest ∷ most_area ∷ widest ∷ []) (Sum w64 (Prod w64 (Read w64 0) (Read w64 0)) (Read w64 1)) (Prod w64 (Read w64 2) (Read w64 2))
    (c.requires.height_ok.within, (c.requires.gap_ok.within, (c.requires.r_ok.within, tt))) refl
