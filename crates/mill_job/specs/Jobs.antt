-- The ranges and relations that a job keeps, and the tool with which it cuts.
use Rattle.std.specs.Prelude.{◌≡◌, false, ◌*◌, ◌≤◌, List, length, All, AllPairs, ℤ, pos, ◌+ℤ◌, ◌-ℤ◌, ◌*ℤ◌, ◌<ℤ◌, ◌≤ℤ◌, IfSome}
use Rattle.mill_base.specs.Numbers.{Within}
use Rattle.mill_base.specs.declared.limits.TheConstants.{MAX_COLUMNS, MAX_RADIUS}
use Rattle.mill_base.specs.Sizes.{IsCutter, radius_of}
use Rattle.mill_base.specs.Solids.{IsSolid, Solid}
use Rattle.mill_base.specs.Units.{greatest_of}
use Rattle.mill_base.specs.declared.cutter.Cutter.{Cutter}
use Rattle.mill_base.specs.declared.tool.Tool.{Tool}
use Rattle.mill_job.specs.Columns.{row_count, column_count}
use Rattle.mill_job.specs.Fixtures.{AreFixtures, IsUnder}
use Rattle.mill_job.specs.Habits.{starts_at_home}
use Rattle.mill_job.specs.Slack.{graze_of}
use Rattle.mill_job.specs.Solids.{holder_solid_of, outer_of, part_solid_of}
use Rattle.mill_job.specs.Tables.{IsPlace}
use Rattle.mill_job.specs.declared.fields.JobFields.{JobFields}
use Rattle.mill_job.specs.declared.limits.TheConstants.{MAX_ARC_TOL, MAX_DISTANCE, MAX_GRAZE, MAX_LAYERS, MAX_LEVELS, MAX_OVERCUT, MAX_SLACK, SPARE_ARC}
use Rattle.mill_margin.specs.Margins.{offset_of}

-- z is from lo to hi
pub record IsFrom (lo hi z : ℤ) : Type 0 where
  pub low : lo ≤ℤ z
  pub high : z ≤ℤ hi

-- roughing takes off at most 1,000 layers, if any
abbrev pub HasFewLayers : JobFields → Type 0
HasFewLayers job = (pos 0) <ℤ job.layer → (job.top -ℤ job.floor) ≤ℤ (MAX_LAYERS *ℤ job.layer)

-- z is from the floor on, and under the top
pub record IsLevel (floor top z : ℤ) : Type 0 where
  pub over_floor : floor ≤ℤ z
  pub under_top : z <ℤ top

-- at most 64 levels from the floor on and under the top, each under all before it
pub record AreLevels (floor top : ℤ) (levels : List ℤ) : Type 0 where
  pub few : length levels ≤ MAX_LEVELS
  pub falling : AllPairs (λ before after. after <ℤ before) levels
  pub within : All (IsLevel floor top) levels

-- a cutter is one with a slack around it, and with a slack, an overcut or a graze taken off; the graze is as much as two slacks, in width and in height
pub record IsRoomy (slack overcut graze : ℤ) (cutter : Cutter) : Type 0 where
  pub slack_in : slack <ℤ radius_of cutter
  pub slack_around : (radius_of cutter +ℤ slack) ≤ℤ MAX_RADIUS
  pub overcut_in : overcut <ℤ radius_of cutter
  pub graze_in : graze <ℤ radius_of cutter
  pub graze_wide : (pos 2 *ℤ slack) ≤ℤ graze
  pub graze_high : (pos 2 *ℤ offset_of cutter slack) ≤ℤ offset_of cutter graze

-- a holder stays over the tip with a slack around it, and is no wider than a solid may be
pub record IsHeldOff (slack : ℤ) (holder : Solid) : Type 0 where
  pub over_tip : offset_of holder.cutter slack <ℤ holder.lift
  pub slack_around : (radius_of holder.cutter +ℤ slack) ≤ℤ MAX_RADIUS

-- the job's slack, its overcut and its graze fit a cutter, and with the slack around it the cutter stays over the stock and over each fixture at the clear height
unfoldable pub HasRoom : JobFields → Cutter → Type 0
HasRoom job cutter =
    IsRoomy job.slack job.overcut (graze_of job) cutter
    × (((job.top +ℤ offset_of cutter job.slack) ≤ℤ job.clear) × All (IsUnder job.clear (offset_of cutter job.slack)) job.keep_out)

-- the slack fits the job's holder, if it has one
unfoldable pub HolderHasRoom : JobFields → Type 0
HolderHasRoom job = IfSome job.holder (IsHeldOff job.slack)

-- every number of the job is in its range, and the relations between them hold
pub record IsJob (job : JobFields) : Type 0 where
  pub cutter_ok : IsCutter job.cutter
  pub floor_ok : Within (greatest_of job.unit) job.floor
  pub top_ok : Within (greatest_of job.unit) job.top
  pub clear_ok : Within (greatest_of job.unit) job.clear
  pub x0_ok : Within (greatest_of job.unit) job.area.x0
  pub y0_ok : Within (greatest_of job.unit) job.area.y0
  pub x1_ok : Within (greatest_of job.unit) job.area.x1
  pub y1_ok : Within (greatest_of job.unit) job.area.y1
  pub home_ok : IsPlace job.unit job.home
  pub pitch_ok : IsFrom (pos 1) MAX_DISTANCE job.pitch
  pub sample_ok : IsFrom (pos 1) MAX_DISTANCE job.sample
  pub allowance_ok : IsFrom (pos 0) MAX_DISTANCE job.allowance
  pub band_ok : IsFrom (pos 0) MAX_DISTANCE job.band
  pub x_order : job.area.x0 ≤ℤ job.area.x1
  pub y_order : job.area.y0 ≤ℤ job.area.y1
  pub stock : job.floor ≤ℤ job.top
  pub over_stock : job.top ≤ℤ job.clear
  pub few : (row_count job * column_count job) ≤ MAX_COLUMNS
  pub narrow : job.band ≤ℤ radius_of job.cutter
  pub lift_ok : IsFrom (pos 0) MAX_DISTANCE job.lift
  pub raster_ok : IsFrom (pos 1) MAX_DISTANCE job.raster
  pub rough_raster_ok : IsFrom (pos 1) MAX_DISTANCE job.rough_raster
  pub layer_ok : IsFrom (pos 0) (pos (greatest_of job.unit)) job.layer
  pub rough_stock_ok : IsFrom (pos 0) MAX_DISTANCE job.rough_stock
  pub layers : HasFewLayers job
  pub levels_ok : AreLevels job.floor job.top job.levels
  pub max_cut_ok : IsFrom (pos 0) (pos (greatest_of job.unit)) job.max_cut
  pub holder_ok : IfSome job.holder IsSolid
  pub stickout : IfSome job.holder (λ holder. (pos 1) ≤ℤ holder.lift)
  pub wider : IfSome job.holder (λ holder. radius_of job.cutter <ℤ radius_of holder.cutter)
  pub path_tol_ok : IfSome job.path_tol (IsFrom (pos 0) MAX_DISTANCE)
  pub slack_ok : IsFrom (pos 0) MAX_SLACK job.slack
  pub overcut_ok : IsFrom (pos 0) MAX_OVERCUT job.overcut
  pub graze_ok : IfSome job.graze (IsFrom (pos 0) MAX_GRAZE)
  pub peck_clearance_ok : IfSome job.peck_clearance (IsFrom (pos 0) MAX_DISTANCE)
  pub arc_tol_ok : IfSome job.arc_tol (IsFrom (pos 1) MAX_ARC_TOL)
  pub keep_out_ok : AreFixtures job.unit job.keep_out
  pub room : HasRoom job job.cutter
  pub holder_room : HolderHasRoom job
  pub away : starts_at_home job ≡ false
  pub arc_room : IfSome job.arc_tol (λ tolerance. (tolerance +ℤ SPARE_ARC) ≤ℤ job.slack)

-- the job's relations hold with this cutter in the place of its own
pub record FitsJob (job : JobFields) (cutter : Cutter) : Type 0 where
  pub cutter_ok : IsCutter cutter
  pub narrow : job.band ≤ℤ radius_of cutter
  pub wider : IfSome job.holder (λ holder. radius_of cutter <ℤ radius_of holder.cutter)
  pub room : HasRoom job cutter

-- what a job's tool may touch, by its cutter and by its holder, if it has one
abbrev pub tool_of : JobFields → Tool
tool_of job = record { cutter = outer_of job; holder = holder_solid_of job }

-- what of it is tested against the part
abbrev pub part_tool_of : JobFields → Tool
part_tool_of job = record { cutter = part_solid_of job; holder = holder_solid_of job }
