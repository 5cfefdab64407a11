use Rattle.std.proofs.Common.{List, [], ◌∷◌, ℕ, refl, w64}
use Rattle.mill_base.proofs.Machine.{X, Read, Sum, Prod, less, sum_fits}
use Rattle.mill_geom.specs.Widths.{farthest, widest}
use Rattle.mill_contact_flat.proofs.is_near.Goals as goal

abbrev bs : List ℕ
bs = farthest ∷ farthest ∷ widest ∷ []

abbrev xx : X
xx = Prod w64 (Read w64 0) (Read w64 0)

abbrev yy : X
yy = Prod w64 (Read w64 1) (Read w64 1)

abbrev rr : X
rr = Prod w64 (Read w64 2) (Read w64 2)

pub overflow_add-result : goal.overflow_add-result
overflow_add-result c = sum_fits w64 (c.args.p.x ∷ c.args.p.y ∷ c.args.radius ∷ []) bs xx yy (c.requires.p_ok.x_ok.within, (c.requires.p_ok.y_ok.within, (c.requires.r_ok.within, tt))) refl

pub returns : goal.returns
returns c = less (c.args.p.x ∷ c.args.p.y ∷ c.args.radius ∷ []) bs (Sum w64 xx yy) rr (c.requires.p_ok.x_ok.within, (c.requires.p_ok.y_ok.within, (c.requires.r_ok.within, tt))) refl
