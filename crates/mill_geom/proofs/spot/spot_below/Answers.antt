use Rattle.mill_geom.proofs.Candidates.{corner_below, crossing_below, crossing_back, turn_below, all_beyond}
use Rattle.mill_geom.proofs.Kept.{radius_kept}
use Rattle.mill_geom.proofs.spot.spot_below.Goals as goal

pub returns-then-is_low_corner-clause-found : goal.returns-then-is_low_corner-clause-found
returns-then-is_low_corner-clause-found c =
    let r = radius_kept c.args.radius c.requires.r_ok in
    corner_below c.args.radius c.args.a c.args.b c.args.c c.corner_spot.result (rw r at (c.is_low_corner.ensures.yes c.if-is_low_corner.true)) c.corner_spot.ensures.x c.corner_spot.ensures.y c.corner_spot.ensures.n c.corner_spot.ensures.range

pub returns-then-is_low_corner-2-clause-found : goal.returns-then-is_low_corner-2-clause-found
returns-then-is_low_corner-2-clause-found c =
    let r = radius_kept c.args.radius c.requires.r_ok in
    turn_below c.args.radius c.args.a c.args.b c.args.c _ (corner_below c.args.radius c.args.b c.args.c c.args.a c.corner_spot-then-is_low_corner-2.result (rw r at (c.is_low_corner-2.ensures.yes c.if-is_low_corner-2.true)) c.corner_spot-then-is_low_corner-2.ensures.x c.corner_spot-then-is_low_corner-2.ensures.y c.corner_spot-then-is_low_corner-2.ensures.n c.corner_spot-then-is_low_corner-2.ensures.range)

pub returns-then-is_low_corner-3-clause-found : goal.returns-then-is_low_corner-3-clause-found
returns-then-is_low_corner-3-clause-found c =
    let r = radius_kept c.args.radius c.requires.r_ok in
    turn_below c.args.radius c.args.a c.args.b c.args.c _ (turn_below c.args.radius c.args.b c.args.c c.args.a _ (corner_below c.args.radius c.args.c c.args.a c.args.b c.corner_spot-then-is_low_corner-3.result (rw r at (c.is_low_corner-3.ensures.yes c.if-is_low_corner-3.true)) c.corner_spot-then-is_low_corner-3.ensures.x c.corner_spot-then-is_low_corner-3.ensures.y c.corner_spot-then-is_low_corner-3.ensures.n c.corner_spot-then-is_low_corner-3.ensures.range))

pub returns-then-is_low_crossing-clause-found : goal.returns-then-is_low_crossing-clause-found
returns-then-is_low_crossing-clause-found c =
    let r = radius_kept c.args.radius c.requires.r_ok in
    crossing_below c.args.radius c.args.a c.args.b c.args.c c.crossing_spot.result (rw r at (c.is_low_crossing.ensures.yes c.if-is_low_crossing.true)) c.crossing_spot.ensures.x c.crossing_spot.ensures.y c.crossing_spot.ensures.n c.crossing_spot.ensures.range

pub returns-then-is_low_crossing-2-clause-found : goal.returns-then-is_low_crossing-2-clause-found
returns-then-is_low_crossing-2-clause-found c =
    let r = radius_kept c.args.radius c.requires.r_ok in
    crossing_back c.args.radius c.args.a c.args.b c.args.c c.crossing_spot-then-is_low_crossing-2.result (rw r at (c.is_low_crossing-2.ensures.yes c.if-is_low_crossing-2.true)) c.crossing_spot-then-is_low_crossing-2.ensures.x c.crossing_spot-then-is_low_crossing-2.ensures.y c.crossing_spot-then-is_low_crossing-2.ensures.n c.crossing_spot-then-is_low_crossing-2.ensures.range

pub returns-then-is_low_crossing-3-clause-found : goal.returns-then-is_low_crossing-3-clause-found
returns-then-is_low_crossing-3-clause-found c =
    let r = radius_kept c.args.radius c.requires.r_ok in
    turn_below c.args.radius c.args.a c.args.b c.args.c _ (crossing_below c.args.radius c.args.b c.args.c c.args.a c.crossing_spot-then-is_low_crossing-3.result (rw r at (c.is_low_crossing-3.ensures.yes c.if-is_low_crossing-3.true)) c.crossing_spot-then-is_low_crossing-3.ensures.x c.crossing_spot-then-is_low_crossing-3.ensures.y c.crossing_spot-then-is_low_crossing-3.ensures.n c.crossing_spot-then-is_low_crossing-3.ensures.range)

pub returns-then-is_low_crossing-4-clause-found : goal.returns-then-is_low_crossing-4-clause-found
returns-then-is_low_crossing-4-clause-found c =
    let r = radius_kept c.args.radius c.requires.r_ok in
    turn_below c.args.radius c.args.a c.args.b c.args.c _ (crossing_back c.args.radius c.args.b c.args.c c.args.a c.crossing_spot-then-is_low_crossing-4.result (rw r at (c.is_low_crossing-4.ensures.yes c.if-is_low_crossing-4.true)) c.crossing_spot-then-is_low_crossing-4.ensures.x c.crossing_spot-then-is_low_crossing-4.ensures.y c.crossing_spot-then-is_low_crossing-4.ensures.n c.crossing_spot-then-is_low_crossing-4.ensures.range)

pub returns-then-is_low_crossing-5-clause-found : goal.returns-then-is_low_crossing-5-clause-found
returns-then-is_low_crossing-5-clause-found c =
    let r = radius_kept c.args.radius c.requires.r_ok in
    turn_below c.args.radius c.args.a c.args.b c.args.c _ (turn_below c.args.radius c.args.b c.args.c c.args.a _ (crossing_below c.args.radius c.args.c c.args.a c.args.b c.crossing_spot-then-is_low_crossing-5.result (rw r at (c.is_low_crossing-5.ensures.yes c.if-is_low_crossing-5.true)) c.crossing_spot-then-is_low_crossing-5.ensures.x c.crossing_spot-then-is_low_crossing-5.ensures.y c.crossing_spot-then-is_low_crossing-5.ensures.n c.crossing_spot-then-is_low_crossing-5.ensures.range))

pub returns-then-is_low_crossing-6-clause-found : goal.returns-then-is_low_crossing-6-clause-found
returns-then-is_low_crossing-6-clause-found c =
    let r = radius_kept c.args.radius c.requires.r_ok in
    turn_below c.args.radius c.args.a c.args.b c.args.c _ (turn_below c.args.radius c.args.b c.args.c c.args.a _ (crossing_back c.args.radius c.args.c c.args.a c.args.b c.crossing_spot-then-is_low_crossing-6.result (rw r at (c.is_low_crossing-6.ensures.yes c.if-is_low_crossing-6.true)) c.crossing_spot-then-is_low_crossing-6.ensures.x c.crossing_spot-then-is_low_crossing-6.ensures.y c.crossing_spot-then-is_low_crossing-6.ensures.n c.crossing_spot-then-is_low_crossing-6.ensures.range))

pub returns-clause-none : goal.returns-clause-none
returns-clause-none c = λ h.
    let r = radius_kept c.args.radius c.requires.r_ok in
    all_beyond c.args.radius c.args.a c.args.b c.args.c (rw r at (c.is_low_corner.ensures.no c.if-is_low_corner.false)) (rw r at (c.is_low_corner-2.ensures.no c.if-is_low_corner-2.false)) (rw r at (c.is_low_corner-3.ensures.no c.if-is_low_corner-3.false))
    (rw r at (c.is_low_crossing.ensures.no c.if-is_low_crossing.false)) (rw r at (c.is_low_crossing-2.ensures.no c.if-is_low_crossing-2.false)) (rw r at (c.is_low_crossing-3.ensures.no c.if-is_low_crossing-3.false)) (rw r at (c.is_low_crossing-4.ensures.no c.if-is_low_crossing-4.false)) (rw r at (c.is_low_crossing-5.ensures.no c.if-is_low_crossing-5.false)) (rw r at (c.is_low_crossing-6.ensures.no c.if-is_low_crossing-6.false))
