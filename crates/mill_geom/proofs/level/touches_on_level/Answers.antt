use Rattle.mill_geom.proofs.Corners.{turn_touch, turn_clear, turn_level}
use Rattle.mill_geom.proofs.LevelLine.{none_alone}
use Rattle.mill_geom.proofs.Kept.{radius_kept}
use Rattle.mill_geom.proofs.level.touches_on_level.Goals as goal

pub returns-then-is_alone-clause-yes : goal.returns-then-is_alone-clause-yes
returns-then-is_alone-clause-yes c =
    let r = radius_kept c.args.radius c.requires.r_ok in
    λ h. rw r at (c.crosses.ensures.yes h)

pub returns-then-is_alone-clause-no : goal.returns-then-is_alone-clause-no
returns-then-is_alone-clause-no c =
    let r = radius_kept c.args.radius c.requires.r_ok in
    λ h over edges. (rw r at (c.crosses.ensures.no h)) edges

pub returns-then-is_alone-2-clause-yes : goal.returns-then-is_alone-2-clause-yes
returns-then-is_alone-2-clause-yes c =
    let r = radius_kept c.args.radius c.requires.r_ok in
    λ h. turn_touch c.args.radius c.args.a c.args.b c.args.c (rw r at (c.crosses-then-is_alone-2.ensures.yes h))

pub returns-then-is_alone-2-clause-no : goal.returns-then-is_alone-2-clause-no
returns-then-is_alone-2-clause-no c =
    let r = radius_kept c.args.radius c.requires.r_ok in
    λ h over edges t. (rw r at (c.crosses-then-is_alone-2.ensures.no h)) (turn_clear c.args.radius c.args.a c.args.b c.args.c edges)
    (turn_level c.args.radius c.args.b c.args.c c.args.a (turn_level c.args.radius c.args.c c.args.a c.args.b t))

pub returns-then-is_alone-3-clause-yes : goal.returns-then-is_alone-3-clause-yes
returns-then-is_alone-3-clause-yes c =
    let r = radius_kept c.args.radius c.requires.r_ok in
    λ h. turn_touch c.args.radius c.args.a c.args.b c.args.c (turn_touch c.args.radius c.args.b c.args.c c.args.a (rw r at (c.crosses-then-is_alone-3.ensures.yes h)))

pub returns-then-is_alone-3-clause-no : goal.returns-then-is_alone-3-clause-no
returns-then-is_alone-3-clause-no c =
    let r = radius_kept c.args.radius c.requires.r_ok in
    λ h over edges t. (rw r at (c.crosses-then-is_alone-3.ensures.no h))
    (turn_clear c.args.radius c.args.b c.args.c c.args.a (turn_clear c.args.radius c.args.a c.args.b c.args.c edges)) (turn_level c.args.radius c.args.c c.args.a c.args.b t)

pub returns-clause-no : goal.returns-clause-no
returns-clause-no c = λ h over edges t.
    none_alone c.args.radius c.args.a c.args.b c.args.c c.requires.r_least (c.is_alone.ensures.no c.if-is_alone.false) (c.is_alone-2.ensures.no c.if-is_alone-2.false)
    (c.is_alone-3.ensures.no c.if-is_alone-3.false) over edges t

pub crosses-requires-then-is_alone-3-clause-alone : goal.crosses-requires-then-is_alone-3-clause-alone
crosses-requires-then-is_alone-3-clause-alone c = c.is_alone-3.ensures.yes c.if-is_alone-3.true
