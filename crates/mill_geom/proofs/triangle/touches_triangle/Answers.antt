use Rattle.mill_geom.proofs.Touching.{pierced_touch, no_touch, under_misses}
use Rattle.mill_geom.proofs.Kept.{radius_kept}
use Rattle.mill_geom.proofs.triangle.touches_triangle.Goals as goal

pub returns-then-not-is_over-clause-no : goal.returns-then-not-is_over-clause-no
returns-then-not-is_over-clause-no c = λ h t. under_misses c.args.radius c.args.a c.args.b c.args.c (c.is_over.ensures.no c.if-not-is_over.true) t

pub returns-then-touches_edge-clause-yes : goal.returns-then-touches_edge-clause-yes
returns-then-touches_edge-clause-yes c =
    let r = radius_kept c.args.radius c.requires.r_ok in
    λ h. rw r at (c.touches_edge.ensures.yes c.if-touches_edge.true)

pub returns-then-is_pierced-clause-yes : goal.returns-then-is_pierced-clause-yes
returns-then-is_pierced-clause-yes c = λ h. pierced_touch c.args.radius c.args.a c.args.b c.args.c c.requires.r_least (c.is_pierced.ensures.yes c.if-is_pierced.true)

pub returns-clause-yes : goal.returns-clause-yes
returns-clause-yes c =
    let r = radius_kept c.args.radius c.requires.r_ok in
    λ h. rw r at (c.touches_on_level.ensures.yes h)

pub returns-clause-no : goal.returns-clause-no
returns-clause-no c =
    let r = radius_kept c.args.radius c.requires.r_ok in
    let edges = rw r at (c.touches_edge.ensures.no c.if-touches_edge.false) in
    let over = c.is_over.ensures.yes c.if-not-is_over.false in
    λ h. no_touch c.args.radius c.args.a c.args.b c.args.c c.requires.r_least edges (c.is_pierced.ensures.no c.if-is_pierced.false)
    ((rw r at (c.touches_on_level.ensures.no h)) over edges)
