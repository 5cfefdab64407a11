-- A tool that passes a part on a move doesn't gouge it, wherever its tip may be.
use Rattle.std.specs.Prelude.{◌≡◌, ℤ, List, Option, Some, None, IfSome, MatchOption, Contains}
use Rattle.std.proofs.Common.{inl, inr, subst, ◌∙◌}
use Rattle.std.proofs.lemmas.List.{get_or_default}
use Rattle.mill_base.specs.Motion.{IsTipOf}
use Rattle.mill_base.specs.Points.{tri_at}
use Rattle.mill_base.specs.Ranges.{MoveInRange}
use Rattle.mill_base.specs.Solids.{IsSolid, Solid, SolidGouges}
use Rattle.mill_base.specs.Tools.{ToolGouges}
use Rattle.mill_base.specs.declared.motion.Move.{Move}
use Rattle.mill_base.specs.declared.points.Pt3.{Pt3}
use Rattle.mill_base.specs.declared.points.Tri.{Tri}
use Rattle.mill_base.specs.declared.tool.Tool.{Tool}
use Rattle.mill_sweep.proofs.Solids.{passing_is_clear}
use Rattle.mill_sweep.specs.Solids.{SolidPasses}
use Rattle.mill_gouge.specs.Gouges.{PassesPart, ToolPassesPart}
use Rattle.mill_gouge.specs.Laws.{LiftedIsClear}
use Rattle.mill_gouge.specs.Lifts.{raised}
use Rattle.mill_gouge.proofs.Leasts.{passes_from_lift}

-- a solid that passes the part passes each of its triangles
passes_member : (solid : Solid) (m : Move) (part : List Tri) (tri : Tri) → PassesPart solid m part → Contains part tri → SolidPasses solid m tri
passes_member solid m part tri passes member = subst (λ (t : Tri). SolidPasses solid m t) same (passes member.0 member.1)
  where
    same : tri_at part member.0 ≡ tri
    same = get_or_default part member.0 _ tri member.1 ∙ member.2

module _ (part : List Tri) (m : Move) (d : ℤ) (tip : Pt3) (range : MoveInRange m) (is : IsTipOf m d tip) where
  solid_clear : (solid : Solid) → IsSolid solid → PassesPart solid m part → SolidGouges solid d tip part → ⊥
  solid_clear solid ok passes gouges = passing_is_clear solid m gouges.tri d tip ok range (passes_member solid m part gouges.tri passes gouges.member) is gouges.touches

  holder_clear : (o : Option Solid) → IfSome o IsSolid → IfSome o (λ holder. PassesPart holder m part) → MatchOption o ⊥ (λ holder. SolidGouges holder d tip part) → ⊥
  holder_clear None ok passes gouges = gouges
  holder_clear (Some holder) ok passes gouges = solid_clear holder ok passes gouges

  tool_clear : (tool : Tool) → IsSolid tool.cutter → IfSome tool.holder IsSolid → ToolPassesPart tool m part → ToolGouges tool d tip part → ⊥
  tool_clear tool cutter_ok holder_ok passes (inl gouges) = solid_clear tool.cutter cutter_ok passes.cutter gouges
  tool_clear tool cutter_ok holder_ok passes (inr gouges) = holder_clear tool.holder holder_ok passes.holder gouges

pub lifted_is_clear : LiftedIsClear
lifted_is_clear tool part m n k d tip cutter_ok holder_ok range least from is =
    tool_clear part (raised k m) d tip range is tool cutter_ok holder_ok ((passes_from_lift tool part m n k least).1 from)
