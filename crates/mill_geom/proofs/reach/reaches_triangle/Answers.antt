use Rattle.mill_geom.proofs.Reaching.{touch_reach, over_touch, none_over}
use Rattle.mill_geom.proofs.Kept.{radius_kept}
use Rattle.mill_geom.proofs.reach.reaches_triangle.Goals as goal

pub returns-then-is_over-clause-yes : goal.returns-then-is_over-clause-yes
returns-then-is_over-clause-yes c = λ h.
    let r = radius_kept c.args.radius c.requires.r_ok in
    touch_reach c.args.radius c.args.a c.args.b c.args.c (rw r at (c.touches_triangle.ensures.yes h))

pub returns-then-is_over-clause-no : goal.returns-then-is_over-clause-no
returns-then-is_over-clause-no c = λ h t.
    let r = radius_kept c.args.radius c.requires.r_ok in
    (rw r at (c.touches_triangle.ensures.no h)) (over_touch c.args.radius c.args.a c.args.b c.args.c c.requires.r_least (c.is_over.ensures.yes c.if-is_over.true) t)

pub reaches_under-requires-clause-under : goal.reaches_under-requires-clause-under
reaches_under-requires-clause-under c = none_over c.args.a c.args.b c.args.c (c.is_over.ensures.no c.if-is_over.false)

pub returns-clause-yes : goal.returns-clause-yes
returns-clause-yes c = λ h. rw (radius_kept c.args.radius c.requires.r_ok) at (c.reaches_under.ensures.yes h)

pub returns-clause-no : goal.returns-clause-no
returns-clause-no c = λ h. rw (radius_kept c.args.radius c.requires.r_ok) at (c.reaches_under.ensures.no h)
