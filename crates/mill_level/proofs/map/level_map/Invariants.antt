use Rattle.mill_level.proofs.Mapping.{RowsDone, ColumnsDone}
use Rattle.mill_level.proofs.map.level_map.Given as goal

abbrev pub invariant-loop-y : goal.invariant-loop-y
invariant-loop-y l = RowsDone l.cut.tool l.cut.part.now l.cut.z l.lattice l.y-index l.blocked.items l.places.items

abbrev pub invariant-loop-x : goal.invariant-loop-x
invariant-loop-x l = ColumnsDone l.cut.tool l.cut.part.now l.cut.z l.lattice l.x-index l.blocked.items l.places.items
