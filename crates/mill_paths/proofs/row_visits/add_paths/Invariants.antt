use Rattle.std.proofs.Common.{◌≡◌, ◌++◌, take}
use Rattle.std.specs.List.{flat_map}
use Rattle.mill_paths.specs.Visits.{point_visits}
use Rattle.mill_paths.proofs.row_visits.add_paths.Given as goal

abbrev pub invariant-loop-path : goal.invariant-loop-path
invariant-loop-path l = l.list.visits.items ≡ l.fn.list.visits.items ++ flat_map (λ path. point_visits l.job.fields path.items) (take l.path-index l.paths)
