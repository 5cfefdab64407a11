use Rattle.std.proofs.Common.{map}
use Rattle.mill_paths.specs.RowPaths.{AreTurnedPaths}
use Rattle.mill_paths.proofs.row_paths.paths_alone.Given as goal

abbrev pub invariant-loop-row : goal.invariant-loop-row
invariant-loop-row l = AreTurnedPaths l.job.fields l.part l.tol l.fn.rows.start l.row (map (λ path. path.items) l.paths.items)
