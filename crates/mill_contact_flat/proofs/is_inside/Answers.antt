use Rattle.std.proofs.Common.{subst}
use Rattle.mill_base.specs.Sizes.{IsWideCutter}
use Rattle.mill_geom.proofs.Kept.{given_kept}
use Rattle.mill_contact_flat.proofs.is_inside.Goals as goal

pub returns-clause-no : goal.returns-clause-no
returns-clause-no c = λ h.
    let r = given_kept c.in-Flat.radius (subst IsWideCutter c.in-Flat.is c.requires.cutter_ok) in
    rw c.in-Flat.is (rw r at (c.is_inside_flat.ensures.no h))
