-- What keeps the paths from their visits, as the planner tells it.
use Rattle.mill_paths.specs.declared.fault.PathFault.{PathFault}
use Rattle.mill_paths.specs.declared.fault.PathFault.TheVariants as path
use Rattle.mill_plan.specs.declared.fault.PlanFault.{PlanFault}
use Rattle.mill_plan.specs.declared.fault.PlanFault.TheVariants.{TooManyNodes, TooManyMoves, WantOfMemory}

-- where too many visits differ from the one before them, there are too many moves
abbrev pub plan_fault_of : PathFault → PlanFault
plan_fault_of (path.TooManyNodes nodes) = TooManyNodes nodes
plan_fault_of path.TooManyVisits = TooManyMoves
plan_fault_of path.WantOfMemory = WantOfMemory
