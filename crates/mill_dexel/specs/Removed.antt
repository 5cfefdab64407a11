-- What a solid removes on a move, and on a list of moves.
use Rattle.std.specs.Prelude.{ℤ, pos, List, Contains}
use Rattle.mill_base.specs.Motion.{IsSure, tip_at}
use Rattle.mill_base.specs.Solids.{Solid, SolidHolds}
use Rattle.mill_base.specs.declared.motion.Move.{Move}
use Rattle.mill_base.specs.declared.points.Pt3.{Pt3}

-- at some moment at which it is surely known where the tip is, the whole point p is strictly inside the solid
pub record SolidRemoves (solid : Solid) (m : Move) (p : Pt3) : Type 0 where
  pub k : ℤ
  pub n : ℤ
  pub moment : IsSure m k n
  pub inside : SolidHolds solid n (tip_at m k n) (pos 1) p

-- so it is on some move of the list
pub record IsRemovedBy (solid : Solid) (moves : List Move) (p : Pt3) : Type 0 where
  pub move : Move
  pub member : Contains moves move
  pub removes : SolidRemoves solid move p
