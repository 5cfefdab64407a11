-- A tool: a cutter, and what holds it.
use Rattle.std.specs.Prelude.{◌⊎◌, ℤ, List, None, MatchOption}
use Rattle.mill_base.specs.Solids.{Solid, SolidGouges}
use Rattle.mill_base.specs.declared.points.Pt3.{Pt3}
use Rattle.mill_base.specs.declared.points.Tri.{Tri}
use Rattle.mill_base.specs.declared.tool.Tool.{Tool}

-- the cutter alone
abbrev pub bare : Solid → Tool
bare cutter = record { cutter = cutter; holder = None }

-- with the tool's tip at t over m, some part point is strictly inside the cutter, or inside its holder
abbrev pub ToolGouges : Tool → ℤ → Pt3 → List Tri → Type 0
ToolGouges tool m t part = SolidGouges tool.cutter m t part ⊎ MatchOption tool.holder ⊥ (λ holder. SolidGouges holder m t part)
