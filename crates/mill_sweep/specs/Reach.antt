-- About a move, the box that a triangle must meet to block it, and the height that it must come over.
use Rattle.std.specs.Prelude.{◌⊎◌, ℤ, pos, ◌+ℤ◌, ◌-ℤ◌, ◌≤ℤ◌}
use Rattle.mill_base.specs.Numbers.{lesser, greater}
use Rattle.mill_base.specs.Points.{highest}
use Rattle.mill_base.specs.Ranges.{MoveInRange, TriInRange}
use Rattle.mill_base.specs.Sizes.{radius_of}
use Rattle.mill_base.specs.Solids.{IsSolid, Solid, lifted}
use Rattle.mill_base.specs.declared.points.Box2.{Box2}
use Rattle.mill_base.specs.declared.points.Tri.{Tri}
use Rattle.mill_base.specs.declared.motion.Move.{Move}
use Rattle.mill_base.specs.declared.cutter.Cutter.{Cutter}
use Rattle.mill_base.specs.declared.limits.TheConstants.{MAX_COORDINATE, MAX_LAST_REACH}
use Rattle.mill_cells.specs.Boxes.{box_of, Meet}
use Rattle.mill_sweep.specs.Apart.{low_end_of}
use Rattle.mill_sweep.specs.Solids.{SolidPasses}

-- how far from the move a triangle may lie and still block it: nearer than the radius and the last reach
abbrev pub margin_of : Cutter → ℤ
margin_of cutter = radius_of cutter +ℤ pos MAX_LAST_REACH

-- where the stretch between two coordinates, wider by a margin on each side, begins and ends; no further out than the coordinates of triangles go
abbrev pub low_side_of : ℤ → ℤ → ℤ → ℤ
low_side_of from to margin = greater (lesser from to -ℤ margin) (pos 0 -ℤ pos MAX_COORDINATE)

abbrev pub high_side_of : ℤ → ℤ → ℤ → ℤ
high_side_of from to margin = lesser (greater from to +ℤ margin) (pos MAX_COORDINATE)

-- the box of the move's two ends in x and y, wider by the margin on each side, and cut off so
abbrev pub reach_box_of : Cutter → Move → Box2
reach_box_of cutter m = record {
  x0 = low_side_of m.from.x m.to.x (margin_of cutter);
  y0 = low_side_of m.from.y m.to.y (margin_of cutter);
  x1 = high_side_of m.from.x m.to.x (margin_of cutter);
  y1 = high_side_of m.from.y m.to.y (margin_of cutter);
}

-- the triangle's box doesn't meet that box, or its highest point isn't over that height
abbrev pub IsOutOfReach : Cutter → Move → Tri → Type 0
IsOutOfReach cutter m tri = (¬ Meet (box_of tri) (reach_box_of cutter m)) ⊎ (highest tri ≤ℤ low_end_of m)

-- a solid passes each triangle that is out of reach on the move of its own tip
abbrev pub OutOfReachPasses : Type 0
OutOfReachPasses = (solid : Solid) (move : Move) (tri : Tri) → IsSolid solid → MoveInRange move → TriInRange tri → IsOutOfReach solid.cutter (lifted solid move) tri
    → SolidPasses solid move tri
