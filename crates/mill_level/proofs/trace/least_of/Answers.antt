use Rattle.std.proofs.Common.{arith, get_or, true, false}
use Rattle.mill_geom.specs.declared.touch.Axis.TheVariants.{X}
use Rattle.mill_level.specs.Grids.{edge}
use Rattle.mill_level.specs.inner.Maps.{crossing_at}
use Rattle.mill_level.proofs.Least.{least_now, least_still, tells_before}
use Rattle.mill_level.proofs.trace.least_of.Goals as goal
use Rattle.mill_level.proofs.trace.least_of.Goals.{then-lt, else-lt}

pub loop-at-preserved : goal.loop-at-preserved
loop-at-preserved c =
    let e = edge 0 0 X in
    let this = crossing_at c.args.map.now (get_or c.args.edges.now c.loop-at.at e) in
    let that = crossing_at c.args.map.now (get_or c.args.edges.now c.loop-at.least e) in
    let told = tells_before this that c.rank-rank.result c.loop-at.least_rank c.lt.result in
    elim c.if-lt.branch [
      | then-lt w ↦ rw (w.least-is, w.least_rank-is) (record {
        below = omega arith;
        least = least_now c.args.map.now c.args.edges.now c.loop-at.at c.loop-at.least e c.loop-at.invariant.below (omega arith) c.loop-at.invariant.least
            (told true c.rank-rank.ensures c.loop-at.invariant.rank c.lt.ensures w.if-lt.true);
        rank = c.rank-rank.ensures;
      })
      | else-lt w ↦ rw (w.least-is, w.least_rank-is) (record {
        below = omega arith;
        least = least_still c.args.map.now c.args.edges.now c.loop-at.at c.loop-at.least e c.loop-at.invariant.below (omega arith) c.loop-at.invariant.least
            (told false c.rank-rank.ensures c.loop-at.invariant.rank c.lt.ensures w.if-lt.false);
        rank = c.loop-at.invariant.rank;
      })
    ]
