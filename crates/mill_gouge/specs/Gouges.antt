-- Whether a solid passes each triangle of a part on a move, and if not, which is the first that it doesn't pass.
use Rattle.std.specs.Prelude.{ℕ, ◌<◌, List, length, IfSome}
use Rattle.mill_base.specs.declared.points.Tri.{Tri}
use Rattle.mill_base.specs.declared.motion.Move.{Move}
use Rattle.mill_base.specs.declared.tool.Tool.{Tool}
use Rattle.mill_base.specs.Points.{tri_at}
use Rattle.mill_base.specs.Solids.{Solid}
use Rattle.mill_sweep.specs.Solids.{SolidFailsAt, SolidIsBlocked, SolidPasses}
use Rattle.mill_gouge.specs.declared.gouge.Gouge.{Gouge}

-- the solid passes each triangle of the part on the move
abbrev pub PassesPart : Solid → Move → List Tri → Type 0
PassesPart solid m part = (t : ℕ) → t < length part → SolidPasses solid m (tri_at part t)

-- the gouge's triangle is the first that the solid doesn't pass, the test fails at the gouge's leaf, and the triangle blocks this leaf
pub record IsFirstGouge (solid : Solid) (m : Move) (part : List Tri) (gouge : Gouge) : Type 0 where
  pub tri : gouge.tri < length part
  pub first : (e : ℕ) → e < gouge.tri → SolidPasses solid m (tri_at part e)
  pub fails : SolidFailsAt solid m (tri_at part gouge.tri) gouge.leaf
  pub blocked : SolidIsBlocked solid m (tri_at part gouge.tri) gouge.leaf

-- a tool passes each triangle of the part: its cutter does, and so does its holder, if it has one
pub record ToolPassesPart (tool : Tool) (m : Move) (part : List Tri) : Type 0 where
  pub cutter : PassesPart tool.cutter m part
  pub holder : IfSome tool.holder (λ holder. PassesPart holder m part)
