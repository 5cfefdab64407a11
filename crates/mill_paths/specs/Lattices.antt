-- The lattices that a job's paths go over, and the order of their nodes.
use Rattle.std.specs.Prelude.{ℕ, ◌*◌, ◌%◌, ◌==◌, if◌then◌else◌, ℤ, List, length, reverse}
use Rattle.std.specs.List.{flat_map, range_with_len}
use Rattle.mill_base.specs.Lattices.{lattice_xs, lattice_ys}
use Rattle.mill_base.specs.declared.lattice.Lattice.{Lattice}
use Rattle.mill_job.specs.declared.fields.JobFields.{JobFields}

-- the lattice over the job's area by this step
abbrev pub lattice_by : JobFields → ℤ → Lattice
lattice_by job step = record { area = job.area; step = step }

-- the lattice of the finishing path
abbrev pub finish_lattice : JobFields → Lattice
finish_lattice job = lattice_by job job.raster

-- the lattice of the roughing paths
abbrev pub rough_lattice : JobFields → Lattice
rough_lattice job = lattice_by job job.rough_raster

-- the numbers of the nodes of a row, from 0, where each row has so many: x ascends in the rows 0, 2, 4 and so on, and descends in the others
abbrev pub zigzag_row : ℕ → ℕ → List ℕ
zigzag_row columns row = if row % 2 == 0 then range_with_len (row * columns) columns else reverse (range_with_len (row * columns) columns)

-- the numbers of a lattice's nodes in zigzag order: row by row, with y ascending
abbrev pub zigzag_of : Lattice → List ℕ
zigzag_of lattice = flat_map (zigzag_row (length (lattice_xs lattice))) (range_with_len 0 (length (lattice_ys lattice)))
