-- Moves straight up and down, and what they pass.
use Rattle.std.specs.Prelude.{◌≡◌, pos, ◌≤ℤ◌}
use Rattle.mill_base.specs.Contact.{Holds, Touches}
use Rattle.mill_base.specs.Motion.{IsStraight}
use Rattle.mill_base.specs.declared.points.Pt3.{Pt3}
use Rattle.mill_base.specs.declared.points.Tri.{Tri}
use Rattle.mill_base.specs.declared.motion.Move.{Move}
use Rattle.mill_base.specs.declared.cutter.Cutter.{Cutter}
use Rattle.mill_sweep.specs.Passing.{Passes, PassesPoint}

-- the place q is p, or stands straight over it
pub record IsStraightOver (p q : Pt3) : Type 0 where
  pub x_same : q.x ≡ p.x
  pub y_same : q.y ≡ p.y
  pub z_least : p.z ≤ℤ q.z

-- both ends of the move are p or stand straight over it: the move goes straight up or down, and no lower than p
pub record StaysOver (p : Pt3) (m : Move) : Type 0 where
  pub from : IsStraightOver p m.from
  pub to : IsStraightOver p m.to

-- a straight move up or down passes each triangle that the cutter doesn't touch with its tip at the move's lower end, or at a place under it
abbrev pub VerticalPasses : Type 0
VerticalPasses = (cutter : Cutter) (move : Move) (tri : Tri) (p : Pt3) → IsStraight move → StaysOver p move → ¬ Touches cutter (pos 1) p tri → Passes cutter move tri

-- and each point that the cutter doesn't hold there
abbrev pub VerticalPassesPoint : Type 0
VerticalPassesPoint = (cutter : Cutter) (move : Move) (q p : Pt3) → IsStraight move → StaysOver p move → ¬ Holds cutter (pos 1) p (pos 1) q → PassesPoint cutter move q
