use Rattle.std.specs.Prelude.{◌≡◌, ◌++◌, map, take}
use Rattle.mill_ffi_data.specs.Raw.{corner_of}
use Rattle.mill_ffi.proofs.level.add_points.Given as goal

abbrev pub invariant-loop-point : goal.invariant-loop-point
invariant-loop-point l = map corner_of l.points.items ≡ map corner_of l.fn.points.items ++ take l.point-index l.found
