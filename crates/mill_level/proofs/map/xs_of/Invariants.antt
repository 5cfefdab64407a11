use Rattle.std.proofs.Common.{◌≡◌, take}
use Rattle.mill_base.specs.Lattices.{lattice_xs}
use Rattle.mill_level.proofs.map.xs_of.Given as goal

abbrev pub invariant-loop-column : goal.invariant-loop-column
invariant-loop-column l = l.xs.items ≡ take l.column (lattice_xs l.lattice)
