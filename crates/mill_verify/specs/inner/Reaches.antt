-- Which fixtures need to be tried against a move.
use Rattle.std.specs.Prelude.{◌≡◌, ℤ}
use Rattle.mill_base.specs.Ranges.{MoveInRange}
use Rattle.mill_base.specs.Solids.{IsSolid, Solid, lifted}
use Rattle.mill_base.specs.declared.motion.Move.{Move}
use Rattle.mill_base.specs.declared.points.Box2.{Box2}
use Rattle.mill_sweep.specs.Apart.{low_end_of}
use Rattle.mill_sweep.specs.Reach.{reach_box_of}

-- the area that a fixture must meet to block the solid on the move, and the height that it must come over
pub record IsReach (solid : Solid) (m : Move) (area : Box2) (low : ℤ) : Type 0 where
  pub move_ok : MoveInRange m
  pub solid_ok : IsSolid solid
  pub area_is : area ≡ reach_box_of solid.cutter m
  pub low_is : low ≡ low_end_of (lifted solid m)
