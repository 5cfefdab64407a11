use Rattle.std.specs.Prelude.{List}
use Rattle.std.proofs.Common.{refl, subst, sym, w32}
use Rattle.std.proofs.lemmas.Int.{to_z-of_z}
use Rattle.mill_base.specs.Covers.{IsUnder}
use Rattle.mill_base.specs.declared.points.Tri.{Tri}
use Rattle.mill_tables.proofs.parts.part_under.Goals as goal

pub returns : goal.returns
returns c =
    let most = to_z-of_z w32 c.args.most c.ranges.most in
    let under = rw most at (c.if-not-is_under.ensures refl) in
    subst (λ (tris : List Tri). IsUnder tris c.args.most) (sym c.in_ok-new.ensures) under
