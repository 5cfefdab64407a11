use Rattle.std.proofs.Common.{◌≡◌, false}
use Rattle.mill_level.specs.inner.Maps.{grid_of}
use Rattle.mill_level.specs.inner.Trails.{is_passed}
use Rattle.mill_level.proofs.Edges.{crossing_has_edge}
use Rattle.mill_level.proofs.Marking.{fewer_left}
use Rattle.mill_level.proofs.Tracks.{goes_on, grown, last_crosses, new_after, way_push}
use Rattle.mill_level.proofs.trace.go_on.Goals as goal

pub after-requires-clause-edge_ok : goal.after-requires-clause-edge_ok
after-requires-clause-edge_ok c = last_crosses _ _ _ _ _ _ c.loop-after.invariant.way.track

-- the crossing after the last one has no mark yet
unmarked : (c : goal.In_ok-pass) → is_passed c.args.map.now c.loop-after.passed.items c.in-Some.after ≡ false
unmarked c = new_after c.args.map.now c.loop-after.passed.items c.loop-after.edge c.loop-after.edges.items c.loop-after.invariant.way c.in-Some.after c.in-Some.ensures

pub loop-after-smaller : goal.loop-after-smaller
loop-after-smaller c =
    let crossing = (goes_on (grid_of c.args.map.now)).crosses c.loop-after.edge c.in-Some.after c.in-Some.ensures in
    rw c.in_ok-pass.ensures.marks (fewer_left c.args.map.now c.loop-after.passed.items c.loop-after.invariant.way.track.size c.in-Some.after
    (crossing_has_edge (grid_of c.args.map.now) c.in-Some.after crossing) (unmarked c))

pub loop-after-preserved : goal.loop-after-preserved
loop-after-preserved c =
    let crossing = (goes_on (grid_of c.args.map.now)).crosses c.loop-after.edge c.in-Some.after c.in-Some.ensures in
    rw (c.in_ok-pass.ensures.edges, c.in_ok-pass.ensures.marks) (record {
      way = way_push c.args.map.now c.loop-after.passed.items c.loop-after.edge c.loop-after.edges.items c.loop-after.invariant.way c.in-Some.after c.in-Some.ensures;
      grew = grown c.args.map.now c.args.passed.now.items c.loop-after.passed.items c.args.edges.now.items c.loop-after.edges.items c.in-Some.after
          c.loop-after.invariant.way.track.size crossing (unmarked c) c.loop-after.invariant.grew;
    })
