-- Where a tool gouges, its holder included, it does from each lower place.
use Rattle.std.specs.Prelude.{ℤ, pos, ◌+ℤ◌, ◌≤ℤ◌, List, Option, Some, None, MatchOption}
use Rattle.std.proofs.Common.{inl, inr, arith}
use Rattle.std.proofs.lemmas.Int.{ints}
use Rattle.mill_base.proofs.SolidLemmas.{higher_once}
use Rattle.mill_base.specs.Points.{point_at}
use Rattle.mill_base.specs.Solids.{Solid, SolidGouges, higher}
use Rattle.mill_base.specs.Tools.{ToolGouges}
use Rattle.mill_base.specs.declared.points.Tri.{Tri}
use Rattle.mill_base.specs.declared.tool.Tool.{Tool}
use Rattle.mill_drop.proofs.Heights.{lowered}

module _ (part : List Tri) (x y z above : ℤ) (over : z ≤ℤ above) where
  both_up : (s : ℤ) → higher (pos 1) z s ≤ℤ higher (pos 1) above s
  both_up s = rw (higher_once z s, higher_once above s) (added s)
    where
      added : (s : ℤ) → (z +ℤ s) ≤ℤ (above +ℤ s)
      added s = omega (over, arith, ints)

  solid_lower : (solid : Solid) → SolidGouges solid (pos 1) (point_at x y above) part → SolidGouges solid (pos 1) (point_at x y z) part
  solid_lower solid g = record {
    tri = g.tri;
    member = g.member;
    touches = lowered solid.cutter g.tri x y (higher (pos 1) above solid.lift) (higher (pos 1) z solid.lift) (both_up solid.lift) g.touches;
  }

  holder_lower : (o : Option Solid) → MatchOption o ⊥ (λ holder. SolidGouges holder (pos 1) (point_at x y above) part) → MatchOption o ⊥ (λ holder. SolidGouges holder (pos 1) (point_at x y z) part)
  holder_lower None none = none
  holder_lower (Some holder) g = solid_lower holder g

  pub gouges_lower : (tool : Tool) → ToolGouges tool (pos 1) (point_at x y above) part → ToolGouges tool (pos 1) (point_at x y z) part
  gouges_lower tool (inl g) = inl (solid_lower tool.cutter g)
  gouges_lower tool (inr g) = inr (holder_lower tool.holder g)
