-- Keys that are read together: what is wrong with them, and what they say where nothing is.
use Rattle.std.specs.Prelude.{codes, ℤ, pos, List, [], ◌∷◌, Option}
use Rattle.toml.specs.Data.{Members}
use Rattle.mill_base.specs.Units.{greatest_of}
use Rattle.mill_base.specs.declared.cutter.Cutter.{Cutter}
use Rattle.mill_base.specs.declared.unit.Unit.{Unit}
use Rattle.mill_job.specs.Cutters.{shape_of}
use Rattle.mill_job.specs.Documents.{snap_of}
use Rattle.mill_job.specs.Fixtures.{fixtures_at, fixtures_fault}
use Rattle.mill_job.specs.Habits.{flag_at, flag_fault, lengths_of, lengths_texts, rapids_of, rapids_texts, start_of, start_texts, words_of, words_texts}
use Rattle.mill_job.specs.Holders.{holder_fault, holder_of}
use Rattle.mill_job.specs.Tables.{are_levels, area_of, array_fault, array_fault_if_there, coordinate_fault, is_area, is_place, levels_of, number_at, number_fault, number_fault_if_there, number_given, number_or, numbers_at, place_of, text_fault_if_there}
use Rattle.mill_job.specs.declared.cutter.Outline.{Outline}
use Rattle.mill_job.specs.declared.groups.Extras.{Extras}
use Rattle.mill_job.specs.declared.fault.JobFault.{JobFault}
use Rattle.mill_job.specs.declared.fields.JobFields.{JobFields}
use Rattle.mill_job.specs.declared.key.Key.TheVariants as key
use Rattle.mill_job.specs.declared.limits.TheConstants.{MAX_ARC_TOL, MAX_DISTANCE, MAX_GRAZE, MAX_OVERCUT, MAX_SLACK}
use Rattle.mill_job.specs.declared.groups.Measure.{Measure}
use Rattle.mill_job.specs.declared.groups.Paths.{Paths}
use Rattle.mill_job.specs.declared.groups.Space.{Space}

-- those of the cutter; what is wrong with them is `cutter_key_faults`
abbrev pub outline_of : Members → Outline
outline_of ms = record {
  shape = shape_of ms;
  radius = number_at key.Radius ms;
  rise = number_given key.Rise ms;
  run = number_given key.Run ms;
}

-- those that say where the stock stands, and from where programs start
abbrev pub space_faults : Unit → Members → List (Option JobFault)
space_faults unit ms =
    coordinate_fault unit key.Floor ms
    ∷ coordinate_fault unit key.Top ms
    ∷ coordinate_fault unit key.Clear ms
    ∷ array_fault key.Area (is_area unit) ms
    ∷ array_fault key.Home (is_place unit) ms
    ∷ []

abbrev pub space_of : Members → Space
space_of ms = record {
  floor = number_at key.Floor ms;
  top = number_at key.Top ms;
  clear = number_at key.Clear ms;
  area = area_of (numbers_at key.Area ms);
  home = place_of (numbers_at key.Home ms);
}

-- those that say how finely is looked, and how exactly is cut
abbrev pub measure_faults : Members → List (Option JobFault)
measure_faults ms =
    number_fault key.Pitch (pos 1) MAX_DISTANCE ms
    ∷ number_fault key.Sample (pos 1) MAX_DISTANCE ms
    ∷ number_fault key.Allowance (pos 0) MAX_DISTANCE ms
    ∷ number_fault key.Band (pos 0) MAX_DISTANCE ms
    ∷ []

abbrev pub measure_of : Members → Measure
measure_of ms = record {
  pitch = number_at key.Pitch ms;
  sample = number_at key.Sample ms;
  allowance = number_at key.Allowance ms;
  band = number_at key.Band ms;
}

-- those that say by which paths plans go; the raster is the pitch where the document names none
abbrev pub paths_faults : Unit → Members → List (Option JobFault)
paths_faults unit ms =
    number_fault_if_there key.Lift (pos 0) MAX_DISTANCE ms
    ∷ number_fault_if_there key.Raster (pos 1) MAX_DISTANCE ms
    ∷ number_fault_if_there key.RoughRaster (pos 1) MAX_DISTANCE ms
    ∷ number_fault_if_there key.Layer (pos 0) (pos (greatest_of unit)) ms
    ∷ number_fault_if_there key.RoughStock (pos 0) MAX_DISTANCE ms
    ∷ array_fault_if_there key.Levels (are_levels unit) ms
    ∷ []

abbrev pub paths_of : ℤ → Members → Paths
paths_of pitch ms = record {
  lift = number_or key.Lift (pos 0) ms;
  raster = number_or key.Raster pitch ms;
  rough_raster = number_or key.RoughRaster (number_or key.Raster pitch ms) ms;
  layer = number_or key.Layer (pos 0) ms;
  rough_stock = number_or key.RoughStock (pos 0) ms;
  levels = levels_of (numbers_at key.Levels ms);
}

-- the others, which a document need not have
abbrev pub extras_faults : Unit → Members → List (Option JobFault)
extras_faults unit ms =
    text_fault_if_there key.Snap (codes "nearest" ∷ codes "exact" ∷ []) ms
    ∷ number_fault_if_there key.MaxCut (pos 0) (pos (greatest_of unit)) ms
    ∷ holder_fault unit ms
    ∷ number_fault_if_there key.PathTol (pos 0) MAX_DISTANCE ms
    ∷ number_fault_if_there key.Slack (pos 0) MAX_SLACK ms
    ∷ number_fault_if_there key.Overcut (pos 0) MAX_OVERCUT ms
    ∷ number_fault_if_there key.Graze (pos 0) MAX_GRAZE ms
    ∷ fixtures_fault unit ms
    ∷ text_fault_if_there key.Rapids rapids_texts ms
    ∷ text_fault_if_there key.Start start_texts ms
    ∷ flag_fault key.Spindle ms
    ∷ text_fault_if_there key.Words words_texts ms
    ∷ number_fault_if_there key.PeckClearance (pos 0) MAX_DISTANCE ms
    ∷ text_fault_if_there key.Lengths lengths_texts ms
    ∷ number_fault_if_there key.ArcTol (pos 1) MAX_ARC_TOL ms
    ∷ []

abbrev pub extras_of : Members → Extras
extras_of ms = record {
  snap = snap_of ms;
  max_cut = number_or key.MaxCut (pos 0) ms;
  holder = holder_of ms;
  path_tol = number_given key.PathTol ms;
  slack = number_or key.Slack (pos 0) ms;
  overcut = number_or key.Overcut (pos 0) ms;
  graze = number_given key.Graze ms;
  keep_out = fixtures_at ms;
  rapids = rapids_of ms;
  start = start_of ms;
  spindle = flag_at key.Spindle ms;
  words = words_of ms;
  peck_clearance = number_given key.PeckClearance ms;
  lengths = lengths_of ms;
  arc_tol = number_given key.ArcTol ms;
}

-- the job of what all of them say
abbrev pub job_of_groups : Unit → Cutter → Space → Measure → Paths → Extras → JobFields
job_of_groups unit cutter space measure paths extras = record {
  unit = unit;
  cutter = cutter;
  floor = space.floor;
  top = space.top;
  clear = space.clear;
  area = space.area;
  home = space.home;
  pitch = measure.pitch;
  sample = measure.sample;
  allowance = measure.allowance;
  band = measure.band;
  lift = paths.lift;
  raster = paths.raster;
  rough_raster = paths.rough_raster;
  layer = paths.layer;
  rough_stock = paths.rough_stock;
  levels = paths.levels;
  snap = extras.snap;
  max_cut = extras.max_cut;
  holder = extras.holder;
  path_tol = extras.path_tol;
  slack = extras.slack;
  overcut = extras.overcut;
  graze = extras.graze;
  keep_out = extras.keep_out;
  rapids = extras.rapids;
  start = extras.start;
  spindle = extras.spindle;
  words = extras.words;
  peck_clearance = extras.peck_clearance;
  lengths = extras.lengths;
  arc_tol = extras.arc_tol;
}
