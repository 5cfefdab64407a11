use Rattle.std.proofs.Common.{◌≡◌, [], ◌∷◌, ◌++◌, take}
use Rattle.std.specs.List.{flat_map}
use Rattle.mill_paths.specs.inner.Levels.{point_visit}
use Rattle.mill_paths.proofs.levels.add_points.Given as goal

abbrev pub invariant-loop-point : goal.invariant-loop-point
invariant-loop-point l = l.list.visits.items ≡ l.fn.list.visits.items ++ flat_map (λ p. point_visit l.job.fields.raster p ∷ []) (take l.point-index l.points)
