use Rattle.mill_geom.proofs.Kept.{radius_kept}
use Rattle.mill_contact_flat.proofs.Touched.{first_touch, second_touch, third_touch}
use Rattle.mill_contact_flat.proofs.touches_near.Goals as goal

pub returns-then-is_corner_inside-clause-yes : goal.returns-then-is_corner_inside-clause-yes
returns-then-is_corner_inside-clause-yes c =
    let r = radius_kept c.args.radius c.requires.r_ok in
    λ h. first_touch c.args.radius c.args.a c.args.b c.args.c (rw r at (c.is_corner_inside.ensures.yes c.if-is_corner_inside.true))

pub returns-then-is_corner_inside-2-clause-yes : goal.returns-then-is_corner_inside-2-clause-yes
returns-then-is_corner_inside-2-clause-yes c =
    let r = radius_kept c.args.radius c.requires.r_ok in
    λ h. second_touch c.args.radius c.args.a c.args.b c.args.c (rw r at (c.is_corner_inside-2.ensures.yes c.if-is_corner_inside-2.true))

pub returns-then-is_corner_inside-3-clause-yes : goal.returns-then-is_corner_inside-3-clause-yes
returns-then-is_corner_inside-3-clause-yes c =
    let r = radius_kept c.args.radius c.requires.r_ok in
    λ h. third_touch c.args.radius c.args.a c.args.b c.args.c (rw r at (c.is_corner_inside-3.ensures.yes c.if-is_corner_inside-3.true))

pub returns-clause-yes : goal.returns-clause-yes
returns-clause-yes c =
    let r = radius_kept c.args.radius c.requires.r_ok in
    λ h. rw r at (c.touches_triangle.ensures.yes h)

pub returns-clause-no : goal.returns-clause-no
returns-clause-no c =
    let r = radius_kept c.args.radius c.requires.r_ok in
    λ h. rw r at (c.touches_triangle.ensures.no h)
