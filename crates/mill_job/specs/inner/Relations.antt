-- A job's relations, in three parts: what is wrong, and what holds where nothing is.
use Rattle.std.specs.Prelude.{◌≡◌, false, ◌*◌, ◌≤◌, nat_lt, not, All, ◌<ℤ◌, ◌≤ℤ◌, ◌+ℤ◌, int_lt, List, [], ◌∷◌, ◌++◌, Option, IfSome}
use Rattle.std.specs.List.{list_all}
use Rattle.mill_base.specs.Sizes.{radius_of}
use Rattle.mill_base.specs.declared.limits.TheConstants.{MAX_COLUMNS}
use Rattle.mill_job.specs.Columns.{row_count, column_count}
use Rattle.mill_job.specs.Documents.{are_under, has_many_layers, is_level, slack_faults}
use Rattle.mill_job.specs.Habits.{starts_at_home}
use Rattle.mill_job.specs.Holders.{is_narrow}
use Rattle.mill_job.specs.Jobs.{HasFewLayers, HasRoom, HolderHasRoom, IsLevel}
use Rattle.mill_job.specs.Slack.{are_arcs_tight, is_holder_close, is_low}
use Rattle.mill_job.specs.Tables.{fault_if}
use Rattle.mill_job.specs.declared.fields.JobFields.{JobFields}
use Rattle.mill_job.specs.declared.limits.TheConstants.{SPARE_ARC}
use Rattle.mill_job.specs.declared.key.Key.TheVariants as key
use Rattle.mill_job.specs.declared.fault.JobFault.{JobFault}
use Rattle.mill_job.specs.declared.fault.JobFault.TheVariants.{Relation}

-- between its heights, and of its area and its pitch
abbrev pub stock_faults : JobFields → List (Option JobFault)
stock_faults job =
    fault_if (int_lt job.top job.floor) (Relation key.Floor key.Top)
    ∷ fault_if (int_lt job.clear job.top) (Relation key.Top key.Clear)
    ∷ fault_if (nat_lt MAX_COLUMNS (row_count job * column_count job)) (Relation key.Area key.Pitch)
    ∷ []

pub record IsStock (job : JobFields) : Type 0 where
  pub stock : job.floor ≤ℤ job.top
  pub over_stock : job.top ≤ℤ job.clear
  pub few : (row_count job * column_count job) ≤ MAX_COLUMNS

-- between how is cut and the cutter, the stock or the holder
abbrev pub cut_faults : JobFields → List (Option JobFault)
cut_faults job =
    fault_if (int_lt (radius_of job.cutter) job.band) (Relation key.Band key.Radius)
    ∷ fault_if (has_many_layers job) (Relation key.Layer key.Top)
    ∷ fault_if (not (list_all (is_level job.floor job.top) job.levels)) (Relation key.Levels key.Top)
    ∷ fault_if (is_narrow (radius_of job.cutter) job.holder) (Relation key.Radius key.HolderRadius)
    ∷ []

pub record IsCut (job : JobFields) : Type 0 where
  pub narrow : job.band ≤ℤ radius_of job.cutter
  pub layers : HasFewLayers job
  pub levels : All (IsLevel job.floor job.top) job.levels
  pub wider : IfSome job.holder (λ holder. radius_of job.cutter <ℤ radius_of holder.cutter)

-- between how far the machine may be from the program, and how deep a cutter may pass, and the cutter, the holder, the stock, the fixtures or the tolerance of arcs; and between which words programs have and from where they start
abbrev pub room_faults : JobFields → List (Option JobFault)
room_faults job =
    slack_faults job job.cutter
    ++ fault_if (is_holder_close job.slack job.holder) (Relation key.Slack key.Stickout)
    ∷ fault_if (is_low job job.cutter) (Relation key.Slack key.Clear)
    ∷ fault_if (not (are_under job job.cutter)) (Relation key.KeepOut key.Clear)
    ∷ fault_if (starts_at_home job) (Relation key.Words key.Start)
    ∷ fault_if (are_arcs_tight job.slack job.arc_tol) (Relation key.ArcTol key.Slack)
    ∷ []

pub record IsSlackened (job : JobFields) : Type 0 where
  pub room : HasRoom job job.cutter
  pub holder_room : HolderHasRoom job
  pub away : starts_at_home job ≡ false
  pub arc_room : IfSome job.arc_tol (λ tolerance. (tolerance +ℤ SPARE_ARC) ≤ℤ job.slack)

-- all of them hold
pub record IsRelated (job : JobFields) : Type 0 where
  pub of_stock : IsStock job
  pub of_cut : IsCut job
  pub of_room : IsSlackened job
