-- The chains of a lattice at a height.
use Rattle.std.specs.Prelude.{◌≡◌, ℕ, ◌<◌, Bool, ℤ, List, map, Contains}
use Rattle.mill_base.specs.Points.{point_at}
use Rattle.mill_base.specs.Lattices.{node_count}
use Rattle.mill_base.specs.declared.limits.TheConstants.{MAX_NODES}
use Rattle.mill_base.specs.declared.points.Pt3.{Pt3}
use Rattle.mill_base.specs.declared.points.Tri.{Tri}
use Rattle.mill_base.specs.declared.tool.Tool.{Tool}
use Rattle.mill_base.specs.declared.lattice.Lattice.{Lattice}
use Rattle.mill_level.specs.declared.chain.Chain.{Chain as Answer}
use Rattle.mill_level.specs.Grids.{Grid}
use Rattle.mill_level.specs.Crossings.{Crossing, HasLastFree, TellsBlocked}
use Rattle.mill_level.specs.Chains.{Chain, AreChains, crossings_of}

-- a chain's points
pub record Outline : Type 0 where
  pub closed : Bool
  pub points : List Pt3

-- those of a chain of crossings at height z
abbrev pub outline : ℤ → Chain → Outline
outline z chain = record { closed = chain.closed; points = map (λ (c : Crossing). point_at c.x c.y z) (crossings_of chain) }

-- what a contract sees of a chain
abbrev pub seen : Answer → Outline
seen chain = record { closed = chain.closed; points = chain.points.items }

-- the waterline of a part at height z: which nodes of the lattice are blocked, the chains of the crossings between free and blocked ones, each
-- crossing at its last free position, and the points of these
pub record IsWaterline (tool : Tool) (part : List Tri) (z : ℤ) (lattice : Lattice) (outlines : List Outline) : Type 0 where
  pub grid : Grid
  pub tells : TellsBlocked tool part z lattice grid
  pub chains : List Chain
  pub are_chains : AreChains grid chains
  pub places : (chain : Chain) (c : Crossing) → Contains chains chain → Contains (crossings_of chain) c → HasLastFree tool part z lattice grid c
  pub points : outlines ≡ map (outline z) chains

-- a part has at most one waterline at a height
abbrev pub OneWaterline : Type 0
OneWaterline = (tool : Tool) (part : List Tri) (z : ℤ) (lattice : Lattice) (outlines others : List Outline)
    → IsWaterline tool part z lattice outlines → IsWaterline tool part z lattice others → outlines ≡ others

-- the lattice has this many nodes, which are more than a lattice may have
pub record HasManyNodes (lattice : Lattice) (nodes : ℕ) : Type 0 where
  pub count : nodes ≡ node_count lattice
  pub many : MAX_NODES < nodes
