-- What a job's text means: the document, then the keys, then the relations between them.
use Rattle.std.specs.Prelude.{◌≡◌, ◌⊎◌, ⊤, IsUtf8, ℕ, ◌*◌, nat_lt, codes, bytes_eq, Bool, ◌&&◌, if◌then◌else◌, ℤ, pos, ◌-ℤ◌, ◌*ℤ◌, int_le, int_lt, not, List, [], ◌∷◌, ◌++◌, Option, Some, None, option_and_then, option_map, Result, Err}
use Rattle.std.specs.List.{list_all}
use Rattle.toml.specs.Data.{Members, get_member, as_str}
use Rattle.toml.specs.Parse.{parse_document}
use Rattle.mill_base.specs.declared.cutter.Cutter.{Cutter}
use Rattle.mill_base.specs.declared.limits.TheConstants.{MAX_COLUMNS, MAX_RADIUS}
use Rattle.mill_base.specs.Sizes.{radius_of}
use Rattle.mill_base.specs.Units.{greatest_of}
use Rattle.mill_base.specs.declared.unit.Unit.{Unit}
use Rattle.mill_base.specs.declared.unit.Unit.TheVariants.{Hundredth, Thousandth}
use Rattle.mill_decimal.specs.declared.snap.Snap.{Snap}
use Rattle.mill_decimal.specs.declared.snap.Snap.TheVariants.{Nearest, Exact}
use Rattle.mill_job.specs.Columns.{row_count, column_count}
use Rattle.mill_job.specs.Cutters.{cutter_faults, cutter_of, shape_fault, slope_fault}
use Rattle.mill_job.specs.Fixtures.{fixtures_at, fixtures_fault, is_under}
use Rattle.mill_job.specs.Habits.{flag_at, flag_fault, lengths_of, lengths_texts, rapids_of, rapids_texts, start_of, start_texts, starts_at_home, words_of, words_texts}
use Rattle.mill_job.specs.Holders.{holder_fault, holder_of, is_narrow}
use Rattle.mill_job.specs.Slack.{are_arcs_tight, graze_of, is_holder_close, is_low, is_shallow, is_tight}
use Rattle.mill_job.specs.Keys.{name_of, every_key, unknown_but}
use Rattle.mill_job.specs.Tables.{text_fault_if_there, number_fault, number_fault_if_there, coordinate_fault, array_fault, array_fault_if_there, is_area, is_place, are_levels, number_given, number_at, number_or, numbers_at, area_of, place_of, levels_of, fault_if, first, checked}
use Rattle.mill_job.specs.declared.fields.JobFields.{JobFields}
use Rattle.mill_job.specs.declared.limits.TheConstants.{MAX_ARC_TOL, MAX_DISTANCE, MAX_GRAZE, MAX_LAYERS, MAX_OVERCUT, MAX_SLACK}
use Rattle.mill_job.specs.declared.key.Key.TheVariants as key
use Rattle.mill_job.specs.declared.fault.JobFault.{JobFault}
use Rattle.mill_job.specs.declared.fault.JobFault.TheVariants.{Syntax, Unknown, Relation, WantOfMemory}
use Rattle.mill_margin.specs.Margins.{offset_of}

-- the texts of the units
abbrev pub unit_texts : List (List ℕ)
unit_texts = codes "hundredth" ∷ codes "thousandth" ∷ []

-- the text `thousandth` means thousandths of a millimetre, and any other, or none, hundredths
abbrev pub unit_from : Option (List ℕ) → Unit
unit_from None = Hundredth
unit_from (Some text) = if bytes_eq text (codes "thousandth") then Thousandth else Hundredth

-- the unit of a document's numbers
unfoldable pub unit_of : Members → Unit
unit_of ms = unit_from (option_and_then as_str (get_member (name_of key.Unit) ms))

-- what is wrong with each key but that of the unit, in the format's order: the two that are the holder's by one entry
abbrev pub key_faults_in : Unit → Members → List (Option JobFault)
key_faults_in unit ms =
    shape_fault ms
    ∷ number_fault key.Radius (pos 1) MAX_RADIUS ms
    ∷ slope_fault key.Rise ms
    ∷ slope_fault key.Run ms
    ∷ coordinate_fault unit key.Floor ms
    ∷ coordinate_fault unit key.Top ms
    ∷ coordinate_fault unit key.Clear ms
    ∷ array_fault key.Area (is_area unit) ms
    ∷ array_fault key.Home (is_place unit) ms
    ∷ number_fault key.Pitch (pos 1) MAX_DISTANCE ms
    ∷ number_fault key.Sample (pos 1) MAX_DISTANCE ms
    ∷ number_fault key.Allowance (pos 0) MAX_DISTANCE ms
    ∷ number_fault key.Band (pos 0) MAX_DISTANCE ms
    ∷ number_fault_if_there key.Lift (pos 0) MAX_DISTANCE ms
    ∷ number_fault_if_there key.Raster (pos 1) MAX_DISTANCE ms
    ∷ number_fault_if_there key.RoughRaster (pos 1) MAX_DISTANCE ms
    ∷ number_fault_if_there key.Layer (pos 0) (pos (greatest_of unit)) ms
    ∷ number_fault_if_there key.RoughStock (pos 0) MAX_DISTANCE ms
    ∷ array_fault_if_there key.Levels (are_levels unit) ms
    ∷ text_fault_if_there key.Snap (codes "nearest" ∷ codes "exact" ∷ []) ms
    ∷ number_fault_if_there key.MaxCut (pos 0) (pos (greatest_of unit)) ms
    ∷ holder_fault unit ms
    ∷ number_fault_if_there key.PathTol (pos 0) MAX_DISTANCE ms
    ∷ number_fault_if_there key.Slack (pos 0) MAX_SLACK ms
    ∷ number_fault_if_there key.Overcut (pos 0) MAX_OVERCUT ms
    ∷ number_fault_if_there key.Graze (pos 0) MAX_GRAZE ms
    ∷ fixtures_fault unit ms
    ∷ text_fault_if_there key.Rapids rapids_texts ms
    ∷ text_fault_if_there key.Start start_texts ms
    ∷ flag_fault key.Spindle ms
    ∷ text_fault_if_there key.Words words_texts ms
    ∷ number_fault_if_there key.PeckClearance (pos 0) MAX_DISTANCE ms
    ∷ text_fault_if_there key.Lengths lengths_texts ms
    ∷ number_fault_if_there key.ArcTol (pos 1) MAX_ARC_TOL ms
    ∷ []

-- what is wrong with each key, in the format's order: the unit comes first, since the ranges of others are by it
abbrev pub key_faults : Members → List (Option JobFault)
key_faults ms = text_fault_if_there key.Unit unit_texts ms ∷ key_faults_in (unit_of ms) ms

-- the text `exact` means that finer decimals are refused, and any other, or none, that they are rounded
abbrev pub snap_from : Option (List ℕ) → Snap
snap_from None = Nearest
snap_from (Some text) = if bytes_eq text (codes "exact") then Exact else Nearest

-- how a document takes what is finer than a unit
unfoldable pub snap_of : Members → Snap
snap_of ms = snap_from (option_and_then as_str (get_member (name_of key.Snap) ms))

-- the raster of a document, its pitch where it names none, and the rough raster, the raster where it names none
abbrev pub raster_of : Members → ℤ
raster_of ms = number_or key.Raster (number_at key.Pitch ms) ms

abbrev pub rough_raster_of : Members → ℤ
rough_raster_of ms = number_or key.RoughRaster (raster_of ms) ms

-- the job of a document with whose keys nothing is wrong, in a unit
abbrev pub job_with : Unit → Members → JobFields
job_with unit ms = record {
  unit = unit;
  cutter = cutter_of ms;
  floor = number_at key.Floor ms;
  top = number_at key.Top ms;
  clear = number_at key.Clear ms;
  area = area_of (numbers_at key.Area ms);
  home = place_of (numbers_at key.Home ms);
  pitch = number_at key.Pitch ms;
  sample = number_at key.Sample ms;
  allowance = number_at key.Allowance ms;
  band = number_at key.Band ms;
  lift = number_or key.Lift (pos 0) ms;
  raster = raster_of ms;
  rough_raster = rough_raster_of ms;
  layer = number_or key.Layer (pos 0) ms;
  rough_stock = number_or key.RoughStock (pos 0) ms;
  levels = levels_of (numbers_at key.Levels ms);
  snap = snap_of ms;
  max_cut = number_or key.MaxCut (pos 0) ms;
  holder = holder_of ms;
  path_tol = number_given key.PathTol ms;
  slack = number_or key.Slack (pos 0) ms;
  overcut = number_or key.Overcut (pos 0) ms;
  graze = number_given key.Graze ms;
  keep_out = fixtures_at ms;
  rapids = rapids_of ms;
  start = start_of ms;
  spindle = flag_at key.Spindle ms;
  words = words_of ms;
  peck_clearance = number_given key.PeckClearance ms;
  lengths = lengths_of ms;
  arc_tol = number_given key.ArcTol ms;
}

-- the same in the document's unit
abbrev pub job_from : Members → JobFields
job_from ms = job_with (unit_of ms) ms

-- roughing takes off layers, and more than 1,000 of them
abbrev pub has_many_layers : JobFields → Bool
has_many_layers job = int_lt (pos 0) job.layer && int_lt (MAX_LAYERS *ℤ job.layer) (job.top -ℤ job.floor)

-- z is from the floor on, and under the top
abbrev pub is_level : ℤ → ℤ → ℤ → Bool
is_level floor top z = int_le floor z && int_lt z top

-- what is wrong between a job's slack, its overcut or its graze and a cutter, in order
abbrev pub slack_faults : JobFields → Cutter → List (Option JobFault)
slack_faults job cutter =
    fault_if (is_tight (radius_of cutter) job.slack) (Relation key.Slack key.Radius)
    ∷ fault_if (int_le (radius_of cutter) job.overcut) (Relation key.Overcut key.Radius)
    ∷ fault_if (int_le (radius_of cutter) (graze_of job)) (Relation key.Graze key.Radius)
    ∷ fault_if (is_shallow cutter job.slack (graze_of job)) (Relation key.Graze key.Slack)
    ∷ []

-- a cutter with the slack around it passes over each of the job's fixtures at the clear height
abbrev pub are_under : JobFields → Cutter → Bool
are_under job cutter = list_all (is_under job.clear (offset_of cutter job.slack)) job.keep_out

-- what is wrong between a job's numbers, in order
abbrev pub relation_faults : JobFields → List (Option JobFault)
relation_faults job =
    fault_if (int_lt job.top job.floor) (Relation key.Floor key.Top)
    ∷ fault_if (int_lt job.clear job.top) (Relation key.Top key.Clear)
    ∷ fault_if (nat_lt MAX_COLUMNS (row_count job * column_count job)) (Relation key.Area key.Pitch)
    ∷ fault_if (int_lt (radius_of job.cutter) job.band) (Relation key.Band key.Radius)
    ∷ fault_if (has_many_layers job) (Relation key.Layer key.Top)
    ∷ fault_if (not (list_all (is_level job.floor job.top) job.levels)) (Relation key.Levels key.Top)
    ∷ fault_if (is_narrow (radius_of job.cutter) job.holder) (Relation key.Radius key.HolderRadius)
    ∷ slack_faults job job.cutter
    ++ fault_if (is_holder_close job.slack job.holder) (Relation key.Slack key.Stickout)
    ∷ fault_if (is_low job job.cutter) (Relation key.Slack key.Clear)
    ∷ fault_if (not (are_under job job.cutter)) (Relation key.KeepOut key.Clear)
    ∷ fault_if (starts_at_home job) (Relation key.Words key.Start)
    ∷ fault_if (are_arcs_tight job.slack job.arc_tol) (Relation key.ArcTol key.Slack)
    ∷ []

-- what is wrong between another cutter and a job's numbers, in order
abbrev pub fit_faults : JobFields → Cutter → List (Option JobFault)
fit_faults job cutter =
    fault_if (int_lt (radius_of cutter) job.band) (Relation key.Band key.Radius)
    ∷ fault_if (is_narrow (radius_of cutter) job.holder) (Relation key.Radius key.HolderRadius)
    ∷ slack_faults job cutter
    ++ fault_if (is_low job cutter) (Relation key.Slack key.Clear)
    ∷ fault_if (not (are_under job cutter)) (Relation key.KeepOut key.Clear)
    ∷ []

-- the document's first fault: an unknown key, a key's own fault, one between the cutter's keys, one between the others
abbrev pub document_fault : Members → Option JobFault
document_fault ms = first (option_map Unknown (unknown_but every_key ms) ∷ key_faults ms ++ cutter_faults ms ++ relation_faults (job_from ms))

abbrev pub job_in : Option Members → Result JobFields JobFault
job_in None = Err Syntax
job_in (Some ms) = checked (document_fault ms) (job_from ms)

-- what a text of UTF-8 means as a job, or its first fault
abbrev pub job_of : List ℕ → Result JobFields JobFault
job_of text = job_in (parse_document text)

-- the text is no TOML document, or not UTF-8
abbrev pub IsNoDocument : List ℕ → Type 0
IsNoDocument text = (¬ IsUtf8 text) ⊎ (IsUtf8 text × (parse_document text ≡ None))

-- what a text means as a job; the definition of a document allows any bytes in a comment, so a text that isn't UTF-8 is refused here
abbrev pub IsJobOf : List ℕ → Result JobFields JobFault → Type 0
IsJobOf text answer = (IsUtf8 text × (answer ≡ job_of text)) ⊎ ((¬ IsUtf8 text) × (answer ≡ Err Syntax))

-- the answer is what the text means, or there was not enough memory
abbrev pub GivesJob : List ℕ → Result JobFields JobFault → Type 0
GivesJob text (Err WantOfMemory) = ⊤
GivesJob text answer = IsJobOf text answer
