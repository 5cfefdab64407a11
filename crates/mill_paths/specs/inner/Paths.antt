-- One path over a lattice at a time: roughing on one layer, or finishing. It serves the functions within.
use Rattle.std.specs.Prelude.{ℕ, if◌then◌else◌, ℤ, ◌+ℤ◌, int_lt, int_le, List, Option, Some, None}
use Rattle.std.specs.List.{flat_map}
use Rattle.mill_base.specs.declared.lattice.Lattice.{Lattice}
use Rattle.mill_job.specs.declared.fields.JobFields.{JobFields}
use Rattle.mill_links.specs.declared.visit.Visit.{Visit}
use Rattle.mill_paths.specs.Lattices.{finish_lattice, rough_lattice, zigzag_of}
use Rattle.mill_paths.specs.Visits.{rough_visit, finish_visit}
use Rattle.mill_paths.specs.declared.path.Path.{Path}
use Rattle.mill_paths.specs.declared.path.Path.TheVariants.{Layer, Finish}

-- the lattice that a path goes over
abbrev pub path_lattice : JobFields → Path → Lattice
path_lattice job (Layer z) = rough_lattice job
path_lattice job Finish = finish_lattice job

-- how high a path's tip is over a node with this drop height; none where it doesn't come there
abbrev pub path_height : JobFields → Path → ℤ → Option ℤ
path_height job (Layer z) drop = if int_le (drop +ℤ job.rough_stock) z then Some z else None
path_height job Finish drop = if int_lt (drop +ℤ job.lift) job.top then Some (drop +ℤ job.lift) else None

-- the visit of a path at the node of this number, alone, or none
abbrev pub path_visit : JobFields → List ℤ → Path → ℕ → List Visit
path_visit job heights (Layer z) number = rough_visit job heights z number
path_visit job heights Finish number = finish_visit job heights number

-- the visits of a path, in zigzag order
abbrev pub path_visits : JobFields → List ℤ → Path → List Visit
path_visits job heights path = flat_map (path_visit job heights path) (zigzag_of (path_lattice job path))
