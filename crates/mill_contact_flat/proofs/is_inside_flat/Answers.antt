use Rattle.mill_geom.proofs.Places.{touch_place, place_touch}
use Rattle.mill_geom.proofs.Kept.{radius_read, radius_in, radius_some}
use Rattle.mill_contact_flat.proofs.is_inside_flat.Goals as goal

pub touches_here-requires-clause-r_ok : goal.touches_here-requires-clause-r_ok
touches_here-requires-clause-r_ok c = rw (radius_read c.from.result c.args.radius c.from.ensures c.requires.radius_ok) (radius_in c.args.radius c.requires.radius_ok)

pub touches_here-requires-clause-r_least : goal.touches_here-requires-clause-r_least
touches_here-requires-clause-r_least c = rw (radius_read c.from.result c.args.radius c.from.ensures c.requires.radius_ok) (radius_some c.args.radius c.requires.radius_ok)

pub returns-clause-yes : goal.returns-clause-yes
returns-clause-yes c =
    let r = radius_read c.from.result c.args.radius c.from.ensures c.requires.radius_ok in
    λ h. touch_place c.args.radius c.args.tri.now c.args.tip c.offset_from-a.result c.offset_from-b.result c.offset_from-c.result
    c.offset_from-a.ensures.place
    c.offset_from-b.ensures.place
    c.offset_from-c.ensures.place
    (rw r at (c.touches_here.ensures.yes h))

pub returns-clause-no : goal.returns-clause-no
returns-clause-no c =
    let r = radius_read c.from.result c.args.radius c.from.ensures c.requires.radius_ok in
    λ h t. (rw r at (c.touches_here.ensures.no h)) (place_touch c.args.radius c.args.tri.now c.args.tip c.offset_from-a.result c.offset_from-b.result c.offset_from-c.result
    c.offset_from-a.ensures.place
    c.offset_from-b.ensures.place
    c.offset_from-c.ensures.place
    t)
