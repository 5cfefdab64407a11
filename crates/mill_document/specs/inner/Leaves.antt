-- How deep a leaf of a move is, and its number.
use Rattle.std.specs.Prelude.{◌^◌, ◌<◌, ◌≤◌}
use Rattle.mill_base.specs.declared.limits.TheConstants.{MAX_DEPTH}
use Rattle.mill_sweep.specs.declared.leaf.Leaf.{Leaf}

pub record IsLeaf (leaf : Leaf) : Type 0 where
  pub depth : leaf.d ≤ MAX_DEPTH
  pub number : leaf.k < 2 ^ leaf.d
