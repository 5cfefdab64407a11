-- What a column's top implies.
use Rattle.std.specs.Prelude.{◌≡◌, ℤ, pos, ◌-ℤ◌, ◌<ℤ◌, ◌≤ℤ◌, List, Contains}
use Rattle.mill_base.specs.Motion.{IsStraight}
use Rattle.mill_base.specs.Points.{point_at}
use Rattle.mill_base.specs.Solids.{SolidHolds}
use Rattle.mill_base.specs.Ranges.{MoveInRange, MovesInRange, IsInRange}
use Rattle.mill_base.specs.declared.motion.Move.{Move}
use Rattle.mill_job.specs.Jobs.{IsJob}
use Rattle.mill_job.specs.Slack.{graze_of}
use Rattle.mill_job.specs.Solids.{inner_of, stock_solid_of}
use Rattle.mill_job.specs.declared.fields.JobFields.{JobFields}
use Rattle.mill_sweep.specs.Solids.{SolidPassesPoint}
use Rattle.mill_sweep.specs.Vertical.{StaysOver}
use Rattle.mill_dexel.specs.Removed.{IsRemovedBy}
use Rattle.mill_dexel.specs.Tops.{cut_limit, top_after, top_after_move}

-- every point of a column over its top, up to the uncut stock's, is removed for sure by the moves
abbrev pub OverTopIsRemoved : Type 0
OverTopIsRemoved = (job : JobFields) (moves : List Move) (x y h : ℤ) → IsJob job → MovesInRange moves → IsInRange (point_at x y job.top)
    → top_after job x y moves <ℤ h → h ≤ℤ job.top → IsRemovedBy (inner_of job) moves (point_at x y h)

-- once a list of moves is made, what the cutter removes for sure with the tool's tip at the end of any of them holds no column's top, where that end isn't under the floor
abbrev pub CutAtEnd : Type 0
CutAtEnd = (job : JobFields) (moves : List Move) (m : Move) (x y : ℤ) → IsJob job → Contains moves m → job.floor ≤ℤ m.to.z
    → ¬ SolidHolds (inner_of job) (pos 1) m.to (pos 1) (point_at x y (top_after job x y moves))

-- so a straight move up from there, or down to there, passes every column
abbrev pub PassesAfterCut : Type 0
PassesAfterCut = (job : JobFields) (moves : List Move) (m next : Move) (x y : ℤ) → IsJob job → Contains moves m → job.floor ≤ℤ m.to.z → IsStraight next → StaysOver m.to next
    → SolidPassesPoint (stock_solid_of job) next (point_at x y (top_after job x y moves))

-- a feed straight down from there, by at most the greatest depth of cut and not under the floor, passes every column as low as it may cut
abbrev pub PassesLimitAfterCut : Type 0
PassesLimitAfterCut = (job : JobFields) (moves : List Move) (m next : Move) (x y : ℤ) → IsJob job → Contains moves m → job.floor ≤ℤ m.to.z
    → job.floor ≤ℤ next.from.z → job.floor ≤ℤ next.to.z → IsStraight next → StaysOver (point_at m.to.x m.to.y (m.to.z -ℤ job.max_cut)) next
    → SolidPassesPoint (stock_solid_of job) next (point_at x y (cut_limit job (top_after job x y moves)))

-- a move that passes a point of a column, without a graze, leaves the column up to there
abbrev pub PassedIsLeft : Type 0
PassedIsLeft = (job : JobFields) (m : Move) (x y top h : ℤ) → IsJob job → graze_of job ≡ pos 0 → MoveInRange m → IsInRange (point_at x y top) → IsInRange (point_at x y h)
    → h ≤ℤ top → SolidPassesPoint (stock_solid_of job) m (point_at x y h) → h ≤ℤ top_after_move job x y top m
