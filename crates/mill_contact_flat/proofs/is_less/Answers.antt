use Rattle.std.proofs.Common.{[], ◌∷◌, refl, w64}
use Rattle.mill_base.proofs.Machine.{Read, Prod, less}
use Rattle.mill_geom.specs.Widths.{widest, most_area}
use Rattle.mill_contact_flat.proofs.is_less.Goals as goal

pub returns : goal.returns
returns c = less (c.args.gap ∷ c.args.radius ∷ []) (most_area ∷ widest ∷ []) (Read w64 0) (Prod w64 (Read w64 1) (Read w64 1)) (c.requires.gap_ok.within, (c.requires.r_ok.within, tt)) refl
