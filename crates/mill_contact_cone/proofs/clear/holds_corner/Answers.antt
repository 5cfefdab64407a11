use Rattle.mill_contact_cone.proofs.Whole.{cone_turned}
use Rattle.mill_contact_cone.proofs.Clears.{corner_touch}
use Rattle.mill_contact_cone.proofs.clear.holds_corner.Goals as goal

pub returns-then-holds-clause-yes : goal.returns-then-holds-clause-yes
returns-then-holds-clause-yes c = λ h. corner_touch c.args.cone c.args.a c.args.b c.args.c (c.holds.ensures.yes c.if-holds.true)

pub returns-then-holds-2-clause-yes : goal.returns-then-holds-2-clause-yes
returns-then-holds-2-clause-yes c = λ h. cone_turned c.args.cone c.args.a c.args.b c.args.c (corner_touch c.args.cone c.args.b c.args.c c.args.a (c.holds-2.ensures.yes c.if-holds-2.true))

pub returns-clause-yes : goal.returns-clause-yes
returns-clause-yes c = λ h.
    cone_turned c.args.cone c.args.a c.args.b c.args.c (cone_turned c.args.cone c.args.b c.args.c c.args.a (corner_touch c.args.cone c.args.c c.args.a c.args.b (c.holds-3.ensures.yes h)))

pub returns-clause-no : goal.returns-clause-no
returns-clause-no c = λ h. record { a_out = c.holds.ensures.no c.if-holds.false; b_out = c.holds-2.ensures.no c.if-holds-2.false; c_out = c.holds-3.ensures.no h }
