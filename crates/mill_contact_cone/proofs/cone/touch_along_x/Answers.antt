use Rattle.mill_contact_cone.proofs.Placed.{touch_here, box_shows}
use Rattle.mill_contact_cone.proofs.Stored.{radius_kept}
use Rattle.mill_contact_cone.proofs.cone.touch_along_x.Goals as goal

pub returns-then-has_inside : goal.returns-then-has_inside
returns-then-has_inside c = touch_here c.args.cone c.args.a c.args.b c.args.c (c.has_inside.ensures.yes c.if-has_inside.true)

pub returns-in-Some : goal.returns-in-Some
returns-in-Some c =
    box_shows c.in-Some.side c.args.cone c.args.a c.args.b c.args.c (rw (radius_kept c.args.cone c.requires.cone_ok, c.offset_of.ensures.value, c.offset_of-2.ensures.value, c.offset_of-3.ensures.value) at c.in-Some.ensures.apart)
