use Rattle.std.proofs.Common.{rules, ℤ, w32, to_z, of_z, ap, ◌∙◌, map, take_all, arith}
use Rattle.std.proofs.lemmas.Int.{to_z-of_z}
use Rattle.mill_geom.specs.declared.touch.Axis.TheVariants.{X}
use Rattle.mill_level.specs.Grids.{edge}
use Rattle.mill_level.specs.Waterlines.{outline}
use Rattle.mill_level.specs.inner.Maps.{crossing_at}
use Rattle.mill_level.specs.inner.Trails.{chain_of}
use Rattle.mill_level.proofs.Points.{edge_point, map_next, outline_of_trail, stored_point}
use Rattle.mill_level.proofs.outline.chain_at.Goals as goal

pub loop-edge-preserved : goal.loop-edge-preserved
loop-edge-preserved c =
    let z = to_z w32 (of_z w32 c.args.z) in
    c.in_ok-push.ensures.items ∙ map_next (edge_point c.args.map.now z) c.deref-edge-items.result.now c.loop-edge.edge-index (edge 0 0 X) c.loop-edge.points.items _ (omega arith) c.loop-edge.invariant
    (stored_point c.place-x.result.0 c.place-x.result.1 z (crossing_at c.args.map.now _) (search rules) (search rules) c.place-x.ensures.x c.place-x.ensures.y)

pub returns : goal.returns
returns c =
    let z = to_z w32 (of_z w32 c.args.z) in
    let all = take_all c.loop-edge.edge-index c.deref-edge-items.result.now (omega arith) ∙ c.deref-edge-items.ensures.value in
    outline_of_trail c.args.map.now z c.args.trail.now.closed c.args.trail.now.edges.items c.loop-edge.points.items c.requires.trail_ok.some (c.loop-edge.invariant ∙ ap (map (edge_point c.args.map.now z)) all)
    ∙ ap (λ (v : ℤ). outline v (chain_of c.args.map.now c.args.trail.now)) (to_z-of_z w32 c.args.z c.ranges.z)
