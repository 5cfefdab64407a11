use Rattle.std.proofs.Common.{◌≡◌, ◌++◌, take}
use Rattle.std.specs.List.{flat_map, range_with_len}
use Rattle.mill_run.specs.SamplePart.{sample_square}
use Rattle.mill_run.proofs.sample_part.add_row.Given as goal

abbrev pub invariant-loop-column : goal.invariant-loop-column
invariant-loop-column l = l.tris.items ≡ l.fn.tris.items ++ flat_map (sample_square l.row) (take l.column (range_with_len 0 l.size))
