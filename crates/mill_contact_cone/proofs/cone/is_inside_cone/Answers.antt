use Rattle.mill_contact_cone.proofs.Placed.{Placed, cone_place, place_cone}
use Rattle.mill_contact_cone.proofs.cone.is_inside_cone.Goals as goal

placed : (c : goal.After-has_inside) → Placed c.args.tri.now c.args.tip c.corner_from-a.result c.corner_from-b.result c.corner_from-c.result
placed c = record { a_at = c.corner_from-a.ensures.place; b_at = c.corner_from-b.ensures.place; c_at = c.corner_from-c.ensures.place }

pub returns-clause-yes : goal.returns-clause-yes
returns-clause-yes c = λ h.
    cone_place c.args.cone c.args.tri.now c.args.tip c.corner_from-a.result c.corner_from-b.result c.corner_from-c.result (placed c) (c.has_inside.ensures.yes h)

pub returns-clause-no : goal.returns-clause-no
returns-clause-no c = λ h t.
    c.has_inside.ensures.no h (place_cone c.args.cone c.args.tri.now c.args.tip c.corner_from-a.result c.corner_from-b.result c.corner_from-c.result (placed c) t)
