use Rattle.std.proofs.Common.{◌≡◌, map, take}
use Rattle.mill_level.proofs.Points.{edge_point}
use Rattle.mill_level.proofs.outline.chain_at.Given as goal

abbrev pub invariant-loop-edge : goal.invariant-loop-edge
invariant-loop-edge l = l.points.items ≡ map (edge_point l.map l.fn.z) (take l.edge-index l.edge-items)
