-- Which triangles need to be tried against a move.
use Rattle.std.specs.Prelude.{◌≡◌, ◌⊎◌, ℤ, ◌≤ℤ◌}
use Rattle.mill_base.specs.Points.{highest}
use Rattle.mill_base.specs.Ranges.{TriInRange}
use Rattle.mill_base.specs.Solids.{Solid, lifted}
use Rattle.mill_base.specs.declared.cutter.Cutter.{Cutter}
use Rattle.mill_base.specs.declared.motion.Move.{Move}
use Rattle.mill_base.specs.declared.points.Box2.{Box2}
use Rattle.mill_base.specs.declared.points.Tri.{Tri}
use Rattle.mill_cells.specs.Boxes.{Meet, box_of}
use Rattle.mill_sweep.specs.Passing.{Passes}
use Rattle.mill_gouge.specs.declared.reach.Reach.{Reach}

-- the move passes each triangle in range whose box doesn't meet the area, or whose highest point isn't over the height
abbrev pub PassesOutside : Cutter → Move → Box2 → ℤ → Type 0
PassesOutside cutter m area low = (tri : Tri) → TriInRange tri → (¬ Meet (box_of tri) area) ⊎ (highest tri ≤ℤ low) → Passes cutter m tri

-- it is the solid's on the move, which passes what lies outside it
pub record IsReach (solid : Solid) (m : Move) (reach : Reach) : Type 0 where
  pub sweep : reach.sweep ≡ record { cutter = solid.cutter; move = lifted solid m }
  pub outside : PassesOutside reach.sweep.cutter reach.sweep.move reach.area reach.low
