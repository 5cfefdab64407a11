-- Which moves a solid passes a triangle on, or a point: its own tip moves so much over the tool's as its lift is.
use Rattle.mill_base.specs.Solids.{Solid, lifted}
use Rattle.mill_base.specs.declared.motion.Move.{Move}
use Rattle.mill_base.specs.declared.points.Pt3.{Pt3}
use Rattle.mill_base.specs.declared.points.Tri.{Tri}
use Rattle.mill_sweep.specs.Passing.{FailsAt, IsBlocked, Passes, PassesPoint}
use Rattle.mill_sweep.specs.declared.leaf.Leaf.{Leaf}

-- the solid passes the triangle, or the point, wherever the tip may be on the move
abbrev pub SolidPasses : Solid → Move → Tri → Type 0
SolidPasses solid m tri = Passes solid.cutter (lifted solid m) tri

abbrev pub SolidPassesPoint : Solid → Move → Pt3 → Type 0
SolidPassesPoint solid m p = PassesPoint solid.cutter (lifted solid m) p

-- it doesn't, and this is its failing leaf, which is one of the move too
abbrev pub SolidFailsAt : Solid → Move → Tri → Leaf → Type 0
SolidFailsAt solid m tri leaf = FailsAt solid.cutter (lifted solid m) tri leaf

-- the triangle blocks the solid on this leaf of the move
abbrev pub SolidIsBlocked : Solid → Move → Tri → Leaf → Type 0
SolidIsBlocked solid m tri leaf = IsBlocked solid.cutter (lifted solid m) tri leaf
