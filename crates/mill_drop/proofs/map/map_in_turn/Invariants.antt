use Rattle.std.proofs.Common.{take}
use Rattle.std.specs.List.{All, AllZip}
use Rattle.mill_base.specs.Lattices.{nodes_of}
use Rattle.mill_drop.specs.Drops.{IsHeightFrom}
use Rattle.mill_drop.specs.Maps.{IsHeightAt}
use Rattle.mill_drop.proofs.map.map_in_turn.Given as goal

abbrev pub invariant-loop-number : goal.invariant-loop-number
invariant-loop-number l = AllZip (IsHeightAt l.tool l.part l.floor) (take l.number (nodes_of l.lattice)) l.dropped.items × All (IsHeightFrom l.tool l.floor) l.dropped.items
