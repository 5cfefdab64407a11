-- What every move of a plan keeps: it is what the job's machine makes of its text, in the range of the job's unit and over the floor, and cutter and holder pass the part; it passes what is left of the stock
-- if it is no feed, and as a feed it cuts no column too deep.
use Rattle.std.specs.Prelude.{◌≡◌, ◌≢◌, ◌⊎◌, ℤ, pos, ◌-ℤ◌, ◌≤ℤ◌, List, [], ◌∷◌, ◌++◌, All, Contains}
use Rattle.mill_base.specs.Covers.{IsUnder}
use Rattle.mill_base.specs.Points.{point_at}
use Rattle.mill_base.specs.Ranges.{IsInUnitRange, MoveInUnitRange}
use Rattle.mill_base.specs.Tools.{ToolGouges}
use Rattle.mill_base.specs.declared.points.Pt3.{Pt3}
use Rattle.mill_base.specs.declared.points.Tri.{Tri}
use Rattle.mill_base.specs.declared.motion.Move.{Move}
use Rattle.mill_base.specs.declared.motion.Kind.TheVariants.{Feed}
use Rattle.mill_dexel.specs.Tops.{ClearsColumns, top_after}
use Rattle.mill_gouge.specs.Gouges.{ToolPassesPart}
use Rattle.mill_job.specs.Columns.{home}
use Rattle.mill_job.specs.Habits.{made_by}
use Rattle.mill_job.specs.Jobs.{IsJob, tool_of}
use Rattle.mill_job.specs.Solids.{stock_solid_of}
use Rattle.mill_job.specs.declared.fields.JobFields.{JobFields}
use Rattle.mill_margin.specs.Margins.{offset_of}
use Rattle.mill_ngc.specs.Writing.{as_written}
use Rattle.mill_sweep.specs.Solids.{SolidPassesPoint}
use Rattle.mill_links.specs.Links.{IsLink, head, way_home}
use Rattle.mill_links.specs.Tours.{IsTour, last_place}
use Rattle.mill_links.specs.declared.visit.Visit.{Visit}

-- after the moves done so far, this one is safe
pub record IsSafeMove (job : JobFields) (part : List Tri) (done : List Move) (m : Move) : Type 0 where
  pub ranged : MoveInUnitRange job.unit m
  pub made : made_by job.rapids (as_written m) ≡ m
  pub floor_from : job.floor ≤ℤ m.from.z
  pub floor_to : job.floor ≤ℤ m.to.z
  pub passes : ToolPassesPart (tool_of job) m part
  pub stock : m.kind ≢ Feed → (x y : ℤ) → SolidPassesPoint (stock_solid_of job) m (point_at x y (top_after job x y done))
  pub depth : m.kind ≡ Feed → ClearsColumns job done m

-- so are these moves, each after those before it
abbrev pub AreSafe : JobFields → List Tri → List Move → List Move → Type 0
AreSafe job part done [] = Unit {0}
AreSafe job part done (m ∷ ms) = IsSafeMove job part done m × AreSafe job part (done ++ m ∷ []) ms

-- the moves go from one place to another, each from where the one before it ends
abbrev pub Connect : Pt3 → List Move → Pt3 → Type 0
Connect from [] to = to ≡ from
Connect from (m ∷ ms) to = (m.from ≡ from) × Connect m.to ms to

-- what the tool has to keep off stays under the clear height, by as much as the cutter with the slack around it reaches under its tip
abbrev pub LiesUnderClear : JobFields → List Tri → Type 0
LiesUnderClear job part = IsUnder part (job.clear -ℤ offset_of job.cutter job.slack)

-- the tool may stand here: the place is in the unit's range, from the floor to the top of the stock, and no part point is strictly inside the cutter or its holder
pub record IsFreePlace (job : JobFields) (part : List Tri) (p : Pt3) : Type 0 where
  pub ranged : IsInUnitRange job.unit p
  pub floor : job.floor ≤ℤ p.z
  pub top : p.z ≤ℤ job.top
  pub free : ¬ ToolGouges (tool_of job) (pos 1) p part

-- one of the moves ends here
pub record IsEndOf (moves : List Move) (p : Pt3) : Type 0 where
  pub move : Move
  pub member : Contains moves move
  pub here : move.to ≡ p

-- after these moves the cutter may be here: at the clear height, or at a free place where one of them ends
pub record IsReached (job : JobFields) (part : List Tri) (done : List Move) (p : Pt3) : Type 0 where
  pub ranged : IsInUnitRange job.unit p
  pub floor : job.floor ≤ℤ p.z
  pub low : p.z ≤ℤ job.clear
  pub place : (job.clear ≤ℤ p.z) ⊎ (IsFreePlace job part p × IsEndOf done p)

-- the moves go from one place to another safely, and the cutter is there then
pub record GoSafely (job : JobFields) (part : List Tri) (done : List Move) (from : Pt3) (moves : List Move) (to : Pt3) : Type 0 where
  pub safe : AreSafe job part done moves
  pub connect : Connect from moves to
  pub reached : IsReached job part (done ++ moves) to

-- what a program begins with stays at home safely
abbrev pub HeadIsSafe : Type 0
HeadIsSafe = (job : JobFields) (part : List Tri) → IsJob job → LiesUnderClear job part → GoSafely job part [] (home job) (head job) (home job)

-- a link to a free place goes there safely
abbrev pub LinkIsSafe : Type 0
LinkIsSafe = (job : JobFields) (part : List Tri) (done : List Move) (from : Pt3) (visit : Visit) (moves : List Move) → IsJob job → LiesUnderClear job part
    → IsReached job part done from → IsFreePlace job part visit.at → IsLink job part done from visit moves → GoSafely job part done from moves visit.at

-- so does a tour of free places
abbrev pub TourIsSafe : Type 0
TourIsSafe = (job : JobFields) (part : List Tri) (done : List Move) (from : Pt3) (visits : List Visit) (moves : List Move) → IsJob job → LiesUnderClear job part
    → IsReached job part done from → All (λ v. IsFreePlace job part v.at) visits → IsTour job part done from visits moves → GoSafely job part done from moves (last_place from visits)

-- and the way home
abbrev pub WayHomeIsSafe : Type 0
WayHomeIsSafe = (job : JobFields) (part : List Tri) (done : List Move) (from : Pt3) → IsJob job → LiesUnderClear job part
    → IsReached job part done from → GoSafely job part done from (way_home job from) (home job)
