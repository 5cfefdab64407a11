-- What the planner's steps come to. It serves the functions within.
use Rattle.std.specs.Prelude.{◌≡◌, ◌⊎◌, ◌<◌, List, ◌++◌, length, ⊤}
use Rattle.mill_base.specs.declared.points.Tri.{Tri}
use Rattle.mill_base.specs.declared.motion.Move.{Move}
use Rattle.mill_job.specs.Columns.{home}
use Rattle.mill_job.specs.declared.fields.JobFields.{JobFields}
use Rattle.mill_links.specs.Links.{way_home}
use Rattle.mill_links.specs.Tours.{GoesThrough, last_place}
use Rattle.mill_links.specs.declared.visit.Visit.{Visit}
use Rattle.mill_paths.specs.Unique.{BeginsTour}
use Rattle.mill_plan.specs.Plans.{IsOverMoves, IsOverNodes}
use Rattle.mill_base.specs.declared.limits.TheConstants.{MAX_MOVES}
use Rattle.mill_plan.specs.declared.fault.PlanFault.{PlanFault}
use Rattle.mill_plan.specs.declared.fault.PlanFault.TheVariants.{TooManyNodes, TooManyMoves, Uncut, Held, WantOfMemory}

-- a fault of the lattices tells how many nodes the first that is over its limit has
abbrev pub IsNodesFault : JobFields → PlanFault → Type 0
IsNodesFault job (TooManyNodes nodes) = IsOverNodes job nodes
IsNodesFault job TooManyMoves = ⊥
IsNodesFault job (Uncut row col top) = ⊥
IsNodesFault job (Held number row col) = ⊥
IsNodesFault job WantOfMemory = ⊥

-- a fault of the moves that keep off all this tells of too many nodes or moves, or of want of memory alone
abbrev pub IsMovesFault : JobFields → List Tri → PlanFault → Type 0
IsMovesFault job all (TooManyNodes nodes) = IsOverNodes job nodes
IsMovesFault job all TooManyMoves = IsOverMoves job all
IsMovesFault job all (Uncut row col top) = ⊥
IsMovesFault job all (Held number row col) = ⊥
IsMovesFault job all WantOfMemory = ⊤

-- already the moves from home through the first of the visits are too many
pub record IsTourOver (job : JobFields) (part : List Tri) (visits : List Visit) : Type 0 where
  pub begun : List Move
  pub begins : BeginsTour job part visits begun
  pub many : MAX_MOVES < length begun

-- the moves go from home through the visits, and home again
pub record IsRound (job : JobFields) (part : List Tri) (visits : List Visit) (moves : List Move) : Type 0 where
  pub toured : List Move
  pub tour : GoesThrough job part visits toured
  pub joined : moves ≡ toured ++ way_home job (last_place (home job) visits)

-- the moves of a round are too many
pub record IsLongRound (job : JobFields) (part : List Tri) (visits : List Visit) : Type 0 where
  pub moves : List Move
  pub round : IsRound job part visits moves
  pub many : MAX_MOVES < length moves

-- a fault of a round tells that there are too many moves, on the way or with the way home, or nothing
abbrev pub IsRoundFault : JobFields → List Tri → List Visit → PlanFault → Type 0
IsRoundFault job part visits (TooManyNodes nodes) = ⊥
IsRoundFault job part visits TooManyMoves = IsTourOver job part visits ⊎ IsLongRound job part visits
IsRoundFault job part visits (Uncut row col top) = ⊥
IsRoundFault job part visits (Held number row col) = ⊥
IsRoundFault job part visits WantOfMemory = ⊤
