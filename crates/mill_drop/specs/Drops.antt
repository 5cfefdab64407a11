-- How far a tool can go down over a place until it would gouge.
use Rattle.std.specs.Prelude.{◌≡◌, ◌⊎◌, ℤ, pos, ◌+ℤ◌, ◌-ℤ◌, ◌<ℤ◌, ◌≤ℤ◌, List, MatchOption}
use Rattle.mill_base.specs.Points.{point_at}
use Rattle.mill_base.specs.Tools.{ToolGouges}
use Rattle.mill_base.specs.Solids.{Solid}
use Rattle.mill_base.specs.declared.limits.TheConstants.{LOWEST_LIFT, MAX_COORDINATE}
use Rattle.mill_base.specs.declared.points.Tri.{Tri}
use Rattle.mill_base.specs.declared.tool.Tool.{Tool}

-- with the tool's tip at (x, y, z), some part point is strictly inside its cutter or its holder
abbrev pub GougesAt : Tool → List Tri → ℤ → ℤ → ℤ → Type 0
GougesAt tool part x y z = ToolGouges tool (pos 1) (point_at x y z) part

-- z is the least whole height, from the floor on, at which the tool over (x, y) doesn't gouge; nor does it at any greater height
pub record IsDropHeight (tool : Tool) (part : List Tri) (x y floor z : ℤ) : Type 0 where
  pub kept : floor ≤ℤ z
  pub free : (higher : ℤ) → z ≤ℤ higher → ¬ GougesAt tool part x y higher
  pub least : (lower : ℤ) → floor ≤ℤ lower → lower <ℤ z → GougesAt tool part x y lower

-- a height of a tool's tip is that of a coordinate, or over it by no more than the lowest lift is under the tool's tip
pub record IsToolHeight (z : ℤ) : Type 0 where
  pub least : (pos 0 -ℤ pos MAX_COORDINATE) ≤ℤ z
  pub most : z ≤ℤ (pos MAX_COORDINATE -ℤ LOWEST_LIFT)

-- with the tool's tip at z, the solid's own tip is no higher than a coordinate may be
abbrev pub IsUnderTop : Solid → ℤ → Type 0
IsUnderTop solid z = (z +ℤ solid.lift) ≤ℤ pos MAX_COORDINATE

-- with the tool's tip at z, so it is with some solid of the tool
abbrev pub SomeIsUnderTop : Tool → ℤ → Type 0
SomeIsUnderTop tool z = IsUnderTop tool.cutter z ⊎ MatchOption tool.holder ⊥ (λ holder. IsUnderTop holder z)

-- a height of a tool's tip, found from the floor on: only as far over the floor as some solid's tip has reached the greatest coordinate
pub record IsHeightFrom (tool : Tool) (floor z : ℤ) : Type 0 where
  pub in_range : IsToolHeight z
  pub reached : (z ≡ floor) ⊎ SomeIsUnderTop tool z
