use Rattle.mill_contact_cone.specs.declared.corner.Cone.{Cone}
use Rattle.mill_contact_cone.specs.declared.corner.Corner.{Corner}
use Rattle.mill_contact_cone.specs.Cones.{IsCone, IsCornerOf}
use Rattle.mill_contact_cone.proofs.Stored.{radius_kept}
use Rattle.mill_contact_cone.proofs.Whole.{Corners, cone_upper, cone_pierced, cone_missed}
use Rattle.mill_contact_cone.proofs.cone.touches_cone.Goals as goal

corners : (k : Cone) (a b c : Corner) → IsCone k → IsCornerOf k a → IsCornerOf k b → IsCornerOf k c → Corners k a b c
corners k a b c g x y z = record { cone = g; a_is = x; b_is = y; c_is = z }

pub returns-then-is_pierced-clause-yes : goal.returns-then-is_pierced-clause-yes
returns-then-is_pierced-clause-yes c = λ h.
    cone_pierced c.args.cone c.args.a c.args.b c.args.c c.requires.cone_ok
    (rw (c.offset_of.ensures.value, c.offset_of-2.ensures.value, c.offset_of-3.ensures.value) at (c.is_pierced.ensures.yes c.if-is_pierced.true))

pub returns-clause-yes : goal.returns-clause-yes
returns-clause-yes c = λ h.
    let radius = radius_kept c.args.cone c.requires.cone_ok in
    cone_upper c.args.cone c.args.a c.args.b c.args.c (corners c.args.cone c.args.a c.args.b c.args.c c.requires.cone_ok c.requires.a_is c.requires.b_is c.requires.c_is)
    (rw (radius, c.lifted_of.ensures.value, c.lifted_of-2.ensures.value, c.lifted_of-3.ensures.value) at (c.touches_on_level.ensures.yes h))

pub returns-clause-no : goal.returns-clause-no
returns-clause-no c = λ h.
    let radius = radius_kept c.args.cone c.requires.cone_ok in
    cone_missed c.args.cone c.args.a c.args.b c.args.c (corners c.args.cone c.args.a c.args.b c.args.c c.requires.cone_ok c.requires.a_is c.requires.b_is c.requires.c_is)
    (c.touches_some_edge.ensures.no c.if-touches_some_edge.false)
    (rw (c.offset_of.ensures.value, c.offset_of-2.ensures.value, c.offset_of-3.ensures.value) at (c.is_pierced.ensures.no c.if-is_pierced.false))
    (rw (radius, c.lifted_of.ensures.value, c.lifted_of-2.ensures.value, c.lifted_of-3.ensures.value) at (c.touches_on_level.ensures.no h))
