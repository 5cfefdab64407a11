use Rattle.std.proofs.Common.{◌≡◌, ◌++◌, length, take}
use Rattle.std.specs.List.{flat_map, range_with_len}
use Rattle.mill_base.specs.Lattices.{lattice_ys}
use Rattle.mill_paths.specs.Lattices.{zigzag_row}
use Rattle.mill_paths.specs.inner.Paths.{path_lattice, path_visit}
use Rattle.mill_paths.proofs.zigzag.add_path.Given as goal

abbrev pub invariant-loop-row : goal.invariant-loop-row
invariant-loop-row l =
    l.list.visits.items ≡ l.fn.list.visits.items
    ++ flat_map (λ row. flat_map (path_visit l.job.fields l.heights l.path) (zigzag_row l.columns row)) (take l.row (range_with_len 0 (length (lattice_ys (path_lattice l.job.fields l.path)))))
