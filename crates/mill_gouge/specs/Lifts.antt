-- A move that is raised, and the least lift with which its tool passes a part.
use Rattle.std.specs.Prelude.{ℕ, ◌<◌, ℤ, pos, ◌+ℤ◌, ◌-ℤ◌, List, Option, Some, None}
use Rattle.mill_base.specs.Covers.{IsUnder}
use Rattle.mill_base.specs.Numbers.{greater}
use Rattle.mill_base.specs.Points.{point_at}
use Rattle.mill_base.specs.Solids.{Solid}
use Rattle.mill_base.specs.declared.limits.TheConstants.{MAX_COORDINATE}
use Rattle.mill_base.specs.declared.motion.Move.{Move}
use Rattle.mill_base.specs.declared.points.Pt3.{Pt3}
use Rattle.mill_base.specs.declared.points.Tri.{Tri}
use Rattle.mill_base.specs.declared.tool.Tool.{Tool}
use Rattle.mill_sweep.specs.Leaves.{length_z}
use Rattle.mill_sweep.specs.Apart.{low_end_of}
use Rattle.mill_gouge.specs.Gouges.{ToolPassesPart}

-- the place n higher
abbrev pub place_over : ℕ → Pt3 → Pt3
place_over n p = point_at p.x p.y (p.z +ℤ pos n)

-- the move with both its ends n higher
abbrev pub raised : ℕ → Move → Move
raised n m = record { kind = m.kind; from = place_over n m.from; to = place_over n m.to }

-- how far a solid's tip is under the tool's, 0 where it isn't
abbrev pub under_tip_of : Solid → ℤ
under_tip_of solid = greater (pos 0 -ℤ solid.lift) (pos 0)

-- the same of a holder, if there is one
abbrev pub held_under_tip_of : Option Solid → ℤ
held_under_tip_of None = pos 0
held_under_tip_of (Some holder) = under_tip_of holder

-- how far the tip of the tool's lowest solid is under the tool's, 0 where none is
abbrev pub low_of : Tool → ℤ
low_of tool = greater (under_tip_of tool.cutter) (held_under_tip_of tool.holder)

-- how low the tip of any of its solids comes on the move
abbrev pub lowest_tip_of : Tool → Move → ℤ
lowest_tip_of tool m = low_end_of m -ℤ low_of tool

-- n is the least whole number by which the move is to be raised so that the tool passes each triangle of the part
pub record IsLeastLift (tool : Tool) (part : List Tri) (m : Move) (n : ℕ) : Type 0 where
  pub passes : ToolPassesPart tool (raised n m) part
  pub least : (k : ℕ) → k < n → ¬ ToolPassesPart tool (raised k m) part

-- up to this height the move can be raised over a part within the range of coordinates that calls take: the greatest of these, less by the move's length in z, and by how far a solid's tip is
-- under the tool's
abbrev pub ceiling_of : Tool → Move → ℤ
ceiling_of tool m = (pos MAX_COORDINATE -ℤ pos (length_z m)) -ℤ low_of tool

-- no corner of the part is higher
abbrev pub HasRoom : Tool → List Tri → Move → Type 0
HasRoom tool part m = IsUnder part (ceiling_of tool m)
