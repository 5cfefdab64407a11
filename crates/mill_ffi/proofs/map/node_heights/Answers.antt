use Rattle.mill_ffi.proofs.Nodes.{length-heights}
use Rattle.mill_ffi.proofs.map.node_heights.Goals as goal

pub returns-clause-count : goal.returns-clause-count
returns-clause-count c = length-heights c.args.tool.now c.in_ok-sorted.sorted _ c.args.lattice.now _ c.in_ok-heights.ensures.heights
