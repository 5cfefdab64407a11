use Rattle.mill_geom.proofs.Along.{touch_along}
use Rattle.mill_geom.proofs.Kept.{radius_read, radius_in, radius_some}
use Rattle.mill_contact_flat.proofs.touch_flat.Goals as goal

pub touch_along_x-requires-clause-r_ok : goal.touch_along_x-requires-clause-r_ok
touch_along_x-requires-clause-r_ok c = rw (radius_read c.from.result c.args.radius c.from.ensures c.requires.radius_ok) (radius_in c.args.radius c.requires.radius_ok)

pub touch_along_x-requires-clause-r_least : goal.touch_along_x-requires-clause-r_least
touch_along_x-requires-clause-r_least c = rw (radius_read c.from.result c.args.radius c.from.ensures c.requires.radius_ok) (radius_some c.args.radius c.requires.radius_ok)

pub returns : goal.returns
returns c =
    let r = radius_read c.from.result c.args.radius c.from.ensures c.requires.radius_ok in
    touch_along c.touch_along_x.result c.args.radius c.args.tri.now c.args.tip c.args.axis c.offset_from.result c.offset_from-2.result c.offset_from-3.result
    c.offset_from.ensures.place
    c.offset_from-2.ensures.place
    c.offset_from-3.ensures.place
    (rw (r, c.turned-a.ensures.value, c.turned-b.ensures.value, c.turned-c.ensures.value) at c.touch_along_x.ensures)
