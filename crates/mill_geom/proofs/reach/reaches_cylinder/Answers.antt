use Rattle.mill_geom.proofs.Reaching.{raised_triangle, reach_place, place_reach}
use Rattle.mill_geom.proofs.Kept.{radius_read}
use Rattle.mill_geom.proofs.reach.reaches_cylinder.Goals as goal

pub returns-then-is_beside-clause-no : goal.returns-then-is_beside-clause-no
returns-then-is_beside-clause-no c = λ h t.
    let r = radius_read c.from-radius.result c.args.radius c.from-radius.ensures c.requires.radius_ok in
    (rw (r, c.raised.ensures.place, c.raised-2.ensures.place, c.raised-3.ensures.place) at (c.is_beside.ensures c.if-is_beside.true))
    (raised_triangle c.args.radius c.offset_from-a.result c.offset_from-b.result c.offset_from-c.result
    (place_reach c.args.radius c.args.tri.now c.args.centre c.offset_from-a.result c.offset_from-b.result c.offset_from-c.result
    c.offset_from-a.ensures.place
    c.offset_from-b.ensures.place
    c.offset_from-c.ensures.place t))

pub returns-clause-yes : goal.returns-clause-yes
returns-clause-yes c = λ h.
    let r = radius_read c.from-radius.result c.args.radius c.from-radius.ensures c.requires.radius_ok in
    reach_place c.args.radius c.args.tri.now c.args.centre c.offset_from-a.result c.offset_from-b.result c.offset_from-c.result
    c.offset_from-a.ensures.place
    c.offset_from-b.ensures.place
    c.offset_from-c.ensures.place
    (rw r at (c.reaches_triangle.ensures.yes h))

pub returns-clause-no : goal.returns-clause-no
returns-clause-no c = λ h t.
    let r = radius_read c.from-radius.result c.args.radius c.from-radius.ensures c.requires.radius_ok in
    (rw r at (c.reaches_triangle.ensures.no h))
    (place_reach c.args.radius c.args.tri.now c.args.centre c.offset_from-a.result c.offset_from-b.result c.offset_from-c.result
    c.offset_from-a.ensures.place
    c.offset_from-b.ensures.place
    c.offset_from-c.ensures.place t)
