use Rattle.std.proofs.Common.{◌≡◌, ◌++◌, take}
use Rattle.std.specs.List.{flat_map}
use Rattle.mill_paths.specs.Visits.{layer_heights, rough_visits_on}
use Rattle.mill_paths.proofs.visits.add_layers.Given as goal

abbrev pub invariant-loop-number : goal.invariant-loop-number
invariant-loop-number l = l.list.visits.items ≡ l.fn.list.visits.items ++ flat_map (rough_visits_on l.job.fields l.heights) (take l.number (layer_heights l.job.fields))
