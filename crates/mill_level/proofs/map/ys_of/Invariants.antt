use Rattle.std.proofs.Common.{◌≡◌, take}
use Rattle.mill_base.specs.Lattices.{lattice_ys}
use Rattle.mill_level.proofs.map.ys_of.Given as goal

abbrev pub invariant-loop-row : goal.invariant-loop-row
invariant-loop-row l = l.ys.items ≡ take l.row (lattice_ys l.lattice)
