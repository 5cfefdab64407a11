use Rattle.std.proofs.Common.{◌≡◌, ◌++◌, take}
use Rattle.std.specs.List.{flat_map}
use Rattle.mill_paths.specs.Lattices.{zigzag_row}
use Rattle.mill_paths.specs.inner.Paths.{path_visit}
use Rattle.mill_paths.proofs.zigzag.add_row.Given as goal

abbrev pub invariant-loop-place : goal.invariant-loop-place
invariant-loop-place l = l.list.visits.items ≡ l.fn.list.visits.items ++ flat_map (path_visit l.job.fields l.heights l.path) (take l.place (zigzag_row l.columns l.row))
