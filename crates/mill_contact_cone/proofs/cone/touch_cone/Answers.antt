use Rattle.mill_contact_cone.proofs.Placed.{touch_along}
use Rattle.mill_contact_cone.proofs.cone.touch_cone.Goals as goal

pub returns : goal.returns
returns c =
    touch_along c.touch_along_x.result c.args.cone c.args.tri.now c.args.tip c.args.axis c.corner_from-a.result c.corner_from-b.result c.corner_from-c.result
    (record { a_at = c.corner_from-a.ensures.place; b_at = c.corner_from-b.ensures.place; c_at = c.corner_from-c.ensures.place }) c.touch_along_x.ensures
