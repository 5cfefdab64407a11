use Rattle.std.proofs.Common.{◌≡◌, take}
use Rattle.std.specs.List.{flat_map, range_with_len}
use Rattle.mill_run.specs.SamplePart.{sample_row}
use Rattle.mill_run.proofs.sample_part.sample_part.Given as goal

abbrev pub invariant-loop-row : goal.invariant-loop-row
invariant-loop-row l = l.tris.items ≡ flat_map (sample_row l.size) (take l.row (range_with_len 0 l.size))
