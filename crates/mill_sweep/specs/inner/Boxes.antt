-- A dogleg's test by the box of its two ends.
use Rattle.mill_base.specs.declared.cutter.Cutter.{Cutter}
use Rattle.mill_base.specs.declared.motion.Move.{Move}
use Rattle.mill_base.specs.declared.points.Tri.{Tri}
use Rattle.mill_sweep.specs.Passing.{BoxPasses, IsWhole}
use Rattle.mill_sweep.specs.declared.leaf.Leaf.{Leaf}

-- it doesn't pass the triangle, and its failing leaf is the whole move
pub record BoxFailsAt (cutter : Cutter) (m : Move) (tri : Tri) (leaf : Leaf) : Type 0 where
  pub fails : ¬ BoxPasses cutter m tri
  pub leads : IsWhole leaf
