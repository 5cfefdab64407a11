use Rattle.std.proofs.Common.{◌≡◌, ◌++◌, take}
use Rattle.std.specs.List.{flat_map}
use Rattle.mill_run.specs.Level.{point_line}
use Rattle.mill_run.proofs.level.add_chain.Given as goal

abbrev pub invariant-loop-point : goal.invariant-loop-point
invariant-loop-point l = l.text.items ≡ l.initial.text.items ++ flat_map (point_line l.unit) (take l.point-index l.point-items)
