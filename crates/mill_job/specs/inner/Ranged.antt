-- What is known of a job's values before its relations are.
use Rattle.std.specs.Prelude.{◌≡◌, ◌≤◌, ℤ, pos, ◌<ℤ◌, ◌≤ℤ◌, List, length, AllPairs, IfSome, IsSome}
use Rattle.mill_base.specs.Numbers.{Within}
use Rattle.mill_base.specs.Sizes.{IsCutter}
use Rattle.mill_base.specs.Solids.{IsSolid}
use Rattle.mill_base.specs.Units.{greatest_of}
use Rattle.mill_base.specs.declared.limits.TheConstants.{MAX_RADIUS}
use Rattle.mill_job.specs.Fixtures.{AreFixtures}
use Rattle.mill_job.specs.Jobs.{IsFrom}
use Rattle.mill_job.specs.Tables.{IsArea, IsPlace}
use Rattle.mill_job.specs.declared.cutter.Outline.{Outline}
use Rattle.mill_job.specs.declared.cutter.Shape.TheVariants as shape
use Rattle.mill_job.specs.declared.groups.Extras.{Extras}
use Rattle.mill_job.specs.declared.fields.JobFields.{JobFields}
use Rattle.mill_job.specs.declared.limits.TheConstants.{MAX_ARC_TOL, MAX_DISTANCE, MAX_GRAZE, MAX_LEVELS, MAX_OVERCUT, MAX_SLACK}
use Rattle.mill_job.specs.declared.groups.Measure.{Measure}
use Rattle.mill_job.specs.declared.groups.Paths.{Paths}
use Rattle.mill_job.specs.declared.groups.Space.{Space}
use Rattle.mill_base.specs.declared.unit.Unit.{Unit}

-- the numbers with which the relations are reckoned are in their ranges
pub record IsRanged (job : JobFields) : Type 0 where
  pub cutter_ok : IsCutter job.cutter
  pub floor_ok : Within (greatest_of job.unit) job.floor
  pub top_ok : Within (greatest_of job.unit) job.top
  pub clear_ok : Within (greatest_of job.unit) job.clear
  pub area_ok : IsArea job.unit job.area
  pub pitch_ok : IsFrom (pos 1) MAX_DISTANCE job.pitch
  pub layer_ok : IsFrom (pos 0) (pos (greatest_of job.unit)) job.layer
  pub slack_ok : IsFrom (pos 0) MAX_SLACK job.slack
  pub graze_ok : IfSome job.graze (IsFrom (pos 0) MAX_GRAZE)
  pub arc_tol_ok : IfSome job.arc_tol (IsFrom (pos 1) MAX_ARC_TOL)

-- at most 64 heights, each under all before it
pub record AreInOrder (heights : List ℤ) : Type 0 where
  pub few : length heights ≤ MAX_LEVELS
  pub falling : AllPairs (λ before after. after <ℤ before) heights

-- each value is in the range of its key, and a cone has a rise and a run
pub record IsOutline (outline : Outline) : Type 0 where
  pub radius_ok : IsFrom (pos 1) MAX_RADIUS outline.radius
  pub rise_ok : IfSome outline.rise (IsFrom (pos 1) (pos 100))
  pub run_ok : IfSome outline.run (IsFrom (pos 1) (pos 100))
  pub has_rise : outline.shape ≡ shape.Cone → IsSome outline.rise
  pub has_run : outline.shape ≡ shape.Cone → IsSome outline.run

-- each value is in the range of its key
pub record IsSpace (unit : Unit) (space : Space) : Type 0 where
  pub floor_ok : Within (greatest_of unit) space.floor
  pub top_ok : Within (greatest_of unit) space.top
  pub clear_ok : Within (greatest_of unit) space.clear
  pub area_ok : IsArea unit space.area
  pub home_ok : IsPlace unit space.home

pub record IsMeasure (measure : Measure) : Type 0 where
  pub pitch_ok : IsFrom (pos 1) MAX_DISTANCE measure.pitch
  pub sample_ok : IsFrom (pos 1) MAX_DISTANCE measure.sample
  pub allowance_ok : IsFrom (pos 0) MAX_DISTANCE measure.allowance
  pub band_ok : IsFrom (pos 0) MAX_DISTANCE measure.band

pub record ArePaths (unit : Unit) (paths : Paths) : Type 0 where
  pub lift_ok : IsFrom (pos 0) MAX_DISTANCE paths.lift
  pub raster_ok : IsFrom (pos 1) MAX_DISTANCE paths.raster
  pub rough_raster_ok : IsFrom (pos 1) MAX_DISTANCE paths.rough_raster
  pub layer_ok : IsFrom (pos 0) (pos (greatest_of unit)) paths.layer
  pub rough_stock_ok : IsFrom (pos 0) MAX_DISTANCE paths.rough_stock
  pub levels_ok : AreInOrder paths.levels

pub record AreExtras (unit : Unit) (extras : Extras) : Type 0 where
  pub max_cut_ok : IsFrom (pos 0) (pos (greatest_of unit)) extras.max_cut
  pub holder_ok : IfSome extras.holder IsSolid
  pub stickout : IfSome extras.holder (λ holder. (pos 1) ≤ℤ holder.lift)
  pub path_tol_ok : IfSome extras.path_tol (IsFrom (pos 0) MAX_DISTANCE)
  pub slack_ok : IsFrom (pos 0) MAX_SLACK extras.slack
  pub overcut_ok : IsFrom (pos 0) MAX_OVERCUT extras.overcut
  pub graze_ok : IfSome extras.graze (IsFrom (pos 0) MAX_GRAZE)
  pub peck_clearance_ok : IfSome extras.peck_clearance (IsFrom (pos 0) MAX_DISTANCE)
  pub arc_tol_ok : IfSome extras.arc_tol (IsFrom (pos 1) MAX_ARC_TOL)
  pub keep_out_ok : AreFixtures unit extras.keep_out
