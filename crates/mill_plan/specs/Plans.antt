-- What a planner can answer to a job and a part, and when each answer is right.
use Rattle.std.specs.Prelude.{◌≡◌, ◌⊎◌, ℕ, ◌≤◌, ◌<◌, false, if◌then◌else◌, ℤ, pos, ◌+ℤ◌, ◌<ℤ◌, List, length, map, drop, All, Option, None, Some, Ok}
use Rattle.mill_base.specs.declared.limits.TheConstants.{MAX_MOVES, MAX_NODES}
use Rattle.mill_base.specs.Solids.{SolidHolds}
use Rattle.mill_base.specs.Covers.{IsHighestCovered}
use Rattle.mill_base.specs.Lattices.{node_count}
use Rattle.mill_base.specs.Points.{point_at}
use Rattle.mill_base.specs.Ranges.{MovesInUnitRange}
use Rattle.mill_base.specs.declared.points.Pt3.{Pt3}
use Rattle.mill_base.specs.declared.points.Tri.{Tri}
use Rattle.mill_base.specs.declared.motion.Move.{Move}
use Rattle.mill_said.specs.declared.rules.Words.{Words}
use Rattle.mill_job.specs.Columns.{home, column_x, column_y}
use Rattle.mill_job.specs.Habits.{is_elsewhere, run_by}
use Rattle.mill_job.specs.Solids.{inner_of}
use Rattle.mill_job.specs.declared.fields.JobFields.{JobFields}
use Rattle.mill_ngc.specs.Programs.{program_of}
use Rattle.mill_ngc.specs.Readings.{MayHave}
use Rattle.mill_links.specs.Links.{head}
use Rattle.mill_links.specs.declared.visit.Visit.{Visit}
use Rattle.mill_obstacles.specs.Faces.{obstacles_of}
use Rattle.mill_paths.specs.Lattices.{finish_lattice, rough_lattice}
use Rattle.mill_paths.specs.Limits.{HasManyNodes}
use Rattle.mill_paths.specs.Plans.{ArePlanVisits, IsPlan}
use Rattle.mill_paths.specs.Unique.{BeginsTour}
use Rattle.mill_paths.specs.Visits.{AreFinishVisits, HaveManyFinishVisits, HaveManyLevelVisits, HaveManyRoughVisits}
use Rattle.mill_ngc.specs.Writing.{as_written, program_text}
use Rattle.mill_verify.specs.Claims.{CutsSafely}
use Rattle.mill_verify.specs.Verdicts.{IsVerdict}
use Rattle.mill_verify.specs.declared.verdict.Verdict.TheVariants.{Accept, Reject}
use Rattle.mill_verify.specs.declared.verdict.Reason.TheVariants.{HolderStock, Left}
use Rattle.mill_sweep.specs.declared.leaf.Leaf.{Leaf}
use Rattle.mill_plan.specs.declared.planned.Planned.{Planned}
use Rattle.mill_plan.specs.declared.fault.PlanFault.{PlanFault}
use Rattle.mill_plan.specs.declared.fault.PlanFault.TheVariants.{TooManyNodes, TooManyMoves, Uncut, Held, WantOfMemory}

-- what a planner answers: a program's text, how many moves it has, how many columns the job has, and the most that a column's top stands over what covers it;
-- or a lattice with so many nodes is too large; or the moves are too many; or the plan leaves this row's and column's stock uncut at a height;
-- or on this move of the plan the holder would touch what is left of this row's and column's stock
pub data PlanAnswer : Type 0 where
  done : List ℕ → ℕ → ℕ → ℤ → PlanAnswer
  too_many_nodes : ℕ → PlanAnswer
  too_many_moves : PlanAnswer
  uncut : ℕ → ℕ → ℤ → PlanAnswer
  held : ℕ → ℕ → ℕ → PlanAnswer

-- ---- the limits

-- each lattice that the paths go over is within its limit; the rough one is gone over only where there is a layer
pub record HasFewNodes (job : JobFields) : Type 0 where
  pub finish : node_count (finish_lattice job) ≤ MAX_NODES
  pub rough : (pos 0) <ℤ job.layer → node_count (rough_lattice job) ≤ MAX_NODES

-- the finishing lattice is within its limit, and the rough one, which is gone over, has so many nodes, and that is too many
pub record HasManyRoughNodes (job : JobFields) (nodes : ℕ) : Type 0 where
  pub finish : node_count (finish_lattice job) ≤ MAX_NODES
  pub layer : (pos 0) <ℤ job.layer
  pub rough : HasManyNodes (rough_lattice job) nodes

-- the first lattice that is over its limit has so many nodes: the finishing one, else the rough one
abbrev pub IsOverNodes : JobFields → ℕ → Type 0
IsOverNodes job nodes = HasManyNodes (finish_lattice job) nodes ⊎ HasManyRoughNodes job nodes

-- In these, all is what the tool has to keep off: the part, and the upper faces of the fixtures.

-- already of the visits of a plan's roughing, of its levels or of its finishing path more differ from the one before them than a plan may have moves
abbrev pub HasManyVisits : JobFields → List Tri → Type 0
HasManyVisits job all = HaveManyRoughVisits job all ⊎ (HaveManyLevelVisits job all ⊎ HaveManyFinishVisits job all)

-- these are a plan's visits, and these moves, with which it begins, go from home through the first of them and are too many
pub record BeginsLong (job : JobFields) (all : List Tri) : Type 0 where
  pub visits : List Visit
  pub are : ArePlanVisits job all visits
  pub begun : List Move
  pub begins : BeginsTour job all visits begun
  pub many : MAX_MOVES < length begun

-- these moves are a plan, and they are too many
pub record HasLongPlan (job : JobFields) (all : List Tri) : Type 0 where
  pub moves : List Move
  pub plan : IsPlan job all moves
  pub many : MAX_MOVES < length moves

-- a plan is shown to be too long by visits that it comes to, by moves with which it begins, or by all its moves
abbrev pub IsShownLong : JobFields → List Tri → Type 0
IsShownLong job all = HasManyVisits job all ⊎ (BeginsLong job all ⊎ HasLongPlan job all)

-- the lattices are within their limits, and the plan's list of moves is too long, as visits or moves of it show
pub record IsOverMoves (job : JobFields) (all : List Tri) : Type 0 where
  pub nodes : HasFewNodes job
  pub shown : IsShownLong job all
  pub many : (moves : List Move) → IsPlan job all moves → MAX_MOVES < length moves

-- the lattices are within their limits, and so is this list of moves, which is the plan
pub record HasPlan (job : JobFields) (all : List Tri) (moves : List Move) : Type 0 where
  pub nodes : HasFewNodes job
  pub is : IsPlan job all moves
  pub few : length moves ≤ MAX_MOVES

-- ---- the text

-- the place to which a program's first lines lead, where it may start from elsewhere than over home: that is home
abbrev pub begin_of : JobFields → Option Pt3
begin_of job = if is_elsewhere job.start then Some (home job) else None

-- the moves of a plan behind those with which it begins
abbrev pub behind_head : JobFields → List Move → List Move
behind_head job moves = drop (length (head job)) moves

-- the text of a plan's moves, in the job's unit: those with which it begins are the lines that lead home
abbrev pub plan_text : JobFields → List Move → List ℕ
plan_text job moves = program_text job.unit (begin_of job) (behind_head job moves)

-- ---- the answers

-- the text is the plan's, and reads back in the job's unit, from the job's home or, where the job has it so, from elsewhere, whichever words its programs have, as moves of which the job's machine makes the plan's, which are in its range;
-- the verdict on them is acceptance, with these numbers, and they cut safely
pub record IsDone (job : JobFields) (part : List Tri) (text : List ℕ) (count columns : ℕ) (left : ℤ) : Type 0 where
  pub moves : List Move
  pub plan : HasPlan job (obstacles_of job part) moves
  pub written : text ≡ plan_text job moves
  pub reads : (words : Words) → MayHave (is_elsewhere job.start) words
      → program_of (home job) job.unit (record { from_anywhere = is_elsewhere job.start; needs_spindle = false; words = words }) text ≡ Ok (map as_written moves)
  pub made : moves ≡ run_by job.rapids (map as_written moves)
  pub in_range : MovesInUnitRange job.unit moves
  pub accepted : IsVerdict job part moves (Accept count columns left)
  pub safe : CutsSafely job part moves

-- no finishing visit has the point inside what the cutter removes for sure there that lies one unit over the column's greatest covered height and the allowance
abbrev pub IsOutOfReach : JobFields → List Tri → ℕ → ℕ → ℤ → Type 0
IsOutOfReach job part row col top = (visits : List Visit) (height : ℤ) → AreFinishVisits job (obstacles_of job part) visits
    → IsHighestCovered part job.floor job.band (column_x job col) (column_y job row) top height
    → All (λ v. ¬ SolidHolds (inner_of job) (pos 1) v.at (pos 1) (point_at (column_x job col) (column_y job row) (height +ℤ job.allowance +ℤ pos 1))) visits

-- the verdict on the plan's moves is that the column's top is left too high, and the finishing path can't come to it
pub record IsUncut (job : JobFields) (part : List Tri) (row col : ℕ) (top : ℤ) : Type 0 where
  pub moves : List Move
  pub plan : HasPlan job (obstacles_of job part) moves
  pub left : IsVerdict job part moves (Reject (Left row col top))
  pub out_of_reach : IsOutOfReach job part row col top

-- the verdict on the plan's moves is that on this one the holder doesn't pass this column
pub record IsHeld (job : JobFields) (part : List Tri) (number row col : ℕ) : Type 0 where
  pub moves : List Move
  pub plan : HasPlan job (obstacles_of job part) moves
  pub leaf : Leaf
  pub stopped : IsVerdict job part moves (Reject (HolderStock number row col leaf))

-- this is the planner's answer: its moves keep off the part and off the fixtures, and the verdict on them is by job and part
abbrev pub IsPlanAnswer : JobFields → List Tri → PlanAnswer → Type 0
IsPlanAnswer job part (done text count columns left) = IsDone job part text count columns left
IsPlanAnswer job part (too_many_nodes nodes) = IsOverNodes job nodes
IsPlanAnswer job part too_many_moves = IsOverMoves job (obstacles_of job part)
IsPlanAnswer job part (uncut row col top) = IsUncut job part row col top
IsPlanAnswer job part (held number row col) = IsHeld job part number row col

-- ---- the call

-- the answer of a plan that was made
abbrev pub answer_of : Planned → PlanAnswer
answer_of p = done p.program.items p.moves p.columns p.most_left

-- a fault is the planner's answer, or tells of want of memory alone
abbrev pub IsPlanFault : JobFields → List Tri → PlanFault → Type 0
IsPlanFault job part (TooManyNodes nodes) = IsPlanAnswer job part (too_many_nodes nodes)
IsPlanFault job part TooManyMoves = IsPlanAnswer job part too_many_moves
IsPlanFault job part (Uncut row col top) = IsPlanAnswer job part (uncut row col top)
IsPlanFault job part (Held number row col) = IsPlanAnswer job part (held number row col)
IsPlanFault job part WantOfMemory = Unit {0}
