-- What it does to raise a move.
use Rattle.std.specs.Prelude.{◌≡◌, ◌↔◌, ℕ, ◌≤◌, ℤ, ◌≤ℤ◌, List, IfSome}
use Rattle.mill_base.specs.Covers.{IsUnder}
use Rattle.mill_base.specs.Motion.{IsTipOf}
use Rattle.mill_base.specs.Ranges.{MoveInRange, MoveInUnitRange, TrisInUnitRange}
use Rattle.mill_base.specs.Solids.{IsSolid}
use Rattle.mill_base.specs.Tools.{ToolGouges}
use Rattle.mill_base.specs.declared.motion.Move.{Move}
use Rattle.mill_base.specs.declared.points.Pt3.{Pt3}
use Rattle.mill_base.specs.declared.points.Tri.{Tri}
use Rattle.mill_base.specs.declared.tool.Tool.{Tool}
use Rattle.mill_base.specs.declared.unit.Unit.TheVariants.{Hundredth}
use Rattle.mill_gouge.specs.Gouges.{ToolPassesPart}
use Rattle.mill_gouge.specs.Lifts.{raised, lowest_tip_of, HasRoom, IsLeastLift}

-- a tool that passes the part on a move passes it on the raised move
abbrev pub RaisingKeepsPass : Type 0
RaisingKeepsPass = (tool : Tool) (part : List Tri) (m : Move) (n : ℕ) → ToolPassesPart tool m part → ToolPassesPart tool (raised n m) part

-- on a move on which the tips of its solids stay over each corner of the part, or at its height, a tool passes the part
abbrev pub OverPartPasses : Type 0
OverPartPasses = (tool : Tool) (part : List Tri) (m : Move) (top : ℤ) → IsUnder part top → top ≤ℤ lowest_tip_of tool m → ToolPassesPart tool m part

-- raised by the least lift or by more, the tool passes the part, and by less it doesn't
abbrev pub PassesFromLift : Type 0
PassesFromLift = (tool : Tool) (part : List Tri) (m : Move) (n k : ℕ) → IsLeastLift tool part m n → ToolPassesPart tool (raised k m) part ↔ (n ≤ k)

-- a tool passes the part on a move as it stands exactly where the least lift is 0
abbrev pub PassingNeedsNoLift : Type 0
PassingNeedsNoLift = (tool : Tool) (part : List Tri) (m : Move) → ToolPassesPart tool m part ↔ IsLeastLift tool part m 0

-- a move that is raised by the least lift or by more, where it is in range, has no part point strictly inside its cutter, or its holder, wherever its tip may be
abbrev pub LiftedIsClear : Type 0
LiftedIsClear = (tool : Tool) (part : List Tri) (m : Move) (n k : ℕ) (d : ℤ) (tip : Pt3) → IsSolid tool.cutter → IfSome tool.holder IsSolid → MoveInRange (raised k m)
    → IsLeastLift tool part m n → n ≤ k → IsTipOf (raised k m) d tip → ¬ ToolGouges tool d tip part

-- a move has at most one least lift
abbrev pub OneLift : Type 0
OneLift = (tool : Tool) (part : List Tri) (m : Move) (n k : ℕ) → IsLeastLift tool part m n → IsLeastLift tool part m k → n ≡ k

-- a move and a part as texts in units of 0.01 mm give them have room, for each tool of solids in range
abbrev pub HundredthsHaveRoom : Type 0
HundredthsHaveRoom = (tool : Tool) (part : List Tri) (m : Move) → IsSolid tool.cutter → IfSome tool.holder IsSolid → TrisInUnitRange Hundredth part → MoveInUnitRange Hundredth m
    → HasRoom tool part m
