-- A tool, its holder included, passes the part straight over a place where it doesn't gouge.
use Rattle.std.specs.Prelude.{pos, List, Option, Some, None, IfSome, MatchOption}
use Rattle.std.proofs.Common.{inl, inr}
use Rattle.std.proofs.lemmas.List.Elements.{Contains-get_or}
use Rattle.mill_base.specs.Motion.{IsStraight}
use Rattle.mill_base.specs.Points.{tri_at}
use Rattle.mill_base.specs.Solids.{Solid, SolidGouges, lifted, solid_tip}
use Rattle.mill_base.specs.Tools.{ToolGouges}
use Rattle.mill_base.specs.declared.motion.Move.{Move}
use Rattle.mill_base.specs.declared.points.Pt3.{Pt3}
use Rattle.mill_base.specs.declared.points.Tri.{Tri}
use Rattle.mill_base.specs.declared.tool.Tool.{Tool}
use Rattle.mill_dexel.proofs.Cleared.{solid_stays_over}
use Rattle.mill_gouge.specs.Gouges.{PassesPart, ToolPassesPart}
use Rattle.mill_sweep.specs.Vertical.{StaysOver}
use Rattle.mill_sweep.proofs.Vertical.{vertical_passes}

module _ (m : Move) (part : List Tri) (p : Pt3) (straight : IsStraight m) (over : StaysOver p m) where
  -- straight up or down over a place where it doesn't gouge
  solid_over : (solid : Solid) → ¬ SolidGouges solid (pos 1) p part → PassesPart solid m part
  solid_over solid free t inside = vertical_passes solid.cutter (lifted solid m) (tri_at part t) (solid_tip solid (pos 1) p) straight (solid_stays_over solid p m over)
      (λ touches. free (record { tri = tri_at part t; member = Contains-get_or part t _ inside; touches = touches }))

  holder_over : (o : Option Solid) → ¬ MatchOption o ⊥ (λ holder. SolidGouges holder (pos 1) p part) → IfSome o (λ holder. PassesPart holder m part)
  holder_over None free = tt
  holder_over (Some holder) free = solid_over holder free

  pub passes_over : (tool : Tool) → ¬ ToolGouges tool (pos 1) p part → ToolPassesPart tool m part
  passes_over tool free = record { cutter = solid_over tool.cutter (λ gouges. free (inl gouges)); holder = holder_over tool.holder (λ gouges. free (inr gouges)) }
