use Rattle.mill_geom.proofs.Kept.{given_kept, radius_read}
use Rattle.mill_contact_ball.proofs.Places.{ball_place, place_ball}
use Rattle.mill_contact_ball.proofs.holds_some.Goals as goal

pub returns-clause-yes : goal.returns-clause-yes
returns-clause-yes c =
    let k = given_kept _ c.requires.radius_ok in
    let r = radius_read c.from.result c.args.radius c.from.ensures c.requires.radius_ok in
    λ h. ball_place c.args.radius c.args.tri.now c.args.tip c.offset_from_centre-a.result c.offset_from_centre-b.result c.offset_from_centre-c.result
    (rw k at c.offset_from_centre-a.ensures.place)
    (rw k at c.offset_from_centre-b.ensures.place)
    (rw k at c.offset_from_centre-c.ensures.place)
    (rw r at (c.meets_here.ensures.yes h))

pub returns-clause-no : goal.returns-clause-no
returns-clause-no c =
    let k = given_kept _ c.requires.radius_ok in
    let r = radius_read c.from.result c.args.radius c.from.ensures c.requires.radius_ok in
    λ h t. (rw r at (c.meets_here.ensures.no h))
    (place_ball c.args.radius c.args.tri.now c.args.tip c.offset_from_centre-a.result c.offset_from_centre-b.result c.offset_from_centre-c.result
    (rw k at c.offset_from_centre-a.ensures.place)
    (rw k at c.offset_from_centre-b.ensures.place)
    (rw k at c.offset_from_centre-c.ensures.place)
    t)
