use Rattle.std.proofs.Common.{◌≡◌}
use Rattle.std.specs.Prelude.{nat_abs}
use Rattle.mill_base.specs.Sizes.{HasRadius, IsSlope}
use Rattle.mill_base.specs.declared.limits.TheConstants.{MAX_RADIUS}
use Rattle.mill_push.proofs.Reaching.{ball_reach_is, cone_reach_is, lesser_most, reach_stored}
use Rattle.mill_push.proofs.Stored.{stored_reach, stored_slope}
use Rattle.mill_push.proofs.reach.reach_under.Goals as goal

pub returns-in-Ball : goal.returns-in-Ball
returns-in-Ball c =
    let size : HasRadius c.in-Ball.radius MAX_RADIUS = rw c.in-Ball.is at c.requires.cutter_ok in
    let radius : c.unsigned_abs.result ≡ nat_abs c.in-Ball.radius = rw (stored_reach c.in-Ball.radius size.least size.within) at c.unsigned_abs.ensures.value in
    rw (c.in-Ball.is, reach_stored c.in-Ball.radius c.unsigned_abs.result c.ball_reach.result size radius c.ball_reach.ensures.most)
    (ball_reach_is c.in-Ball.radius c.unsigned_abs.result c.args.height c.ball_reach.result size radius c.ball_reach.ensures)

pub returns-in-Cone : goal.returns-in-Cone
returns-in-Cone c =
    let sizes : HasRadius c.in-Cone.radius MAX_RADIUS × IsSlope c.in-Cone.rise c.in-Cone.run' = rw c.in-Cone.is at c.requires.cutter_ok in
    let rise : c.unsigned_abs-in-Cone.result ≡ nat_abs c.in-Cone.rise = rw (stored_slope c.in-Cone.rise sizes.1.rise sizes.1.rise_most) at c.unsigned_abs-in-Cone.ensures.value in
    let along : c.unsigned_abs-in-Cone-2.result ≡ nat_abs c.in-Cone.run' = rw (stored_slope c.in-Cone.run' sizes.1.run sizes.1.run_most) at c.unsigned_abs-in-Cone-2.ensures.value in
    let radius : c.unsigned_abs-in-Cone-3.result ≡ nat_abs c.in-Cone.radius = rw (stored_reach c.in-Cone.radius sizes.0.least sizes.0.within) at c.unsigned_abs-in-Cone-3.ensures.value in
    let lesser = rw c.from.ensures at c.min.ensures in
    let most = lesser_most c.wall_reach-wall.result c.unsigned_abs-in-Cone-3.result c.min.result lesser in
    rw (c.in-Cone.is, reach_stored c.in-Cone.radius c.unsigned_abs-in-Cone-3.result c.min.result sizes.0 radius most)
    (cone_reach_is c.in-Cone.radius c.in-Cone.rise c.in-Cone.run' c.unsigned_abs-in-Cone-3.result c.unsigned_abs-in-Cone.result c.unsigned_abs-in-Cone-2.result c.args.height c.wall_reach-wall.result c.min.result sizes.0 sizes.1 radius rise along
    c.requires.some c.wall_reach-wall.ensures lesser)
