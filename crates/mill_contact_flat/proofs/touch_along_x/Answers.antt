use Rattle.mill_geom.proofs.Along.{touch_here}
use Rattle.mill_geom.proofs.Kept.{radius_kept}
use Rattle.mill_contact_flat.proofs.touch_along_x.Goals as goal

pub returns-then-touches_triangle : goal.returns-then-touches_triangle
returns-then-touches_triangle c =
    let r = radius_kept c.args.radius c.requires.r_ok in
    touch_here c.args.radius c.args.a c.args.b c.args.c (rw r at (c.touches_triangle.ensures.yes c.if-touches_triangle.true))
