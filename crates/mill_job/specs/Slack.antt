-- How far a machine may be from its program, and how deep a cutter may pass through what then counts for nothing.
use Rattle.std.specs.Prelude.{Bool, false, ◌||◌, if◌then◌else◌, ℤ, pos, ◌+ℤ◌, ◌*ℤ◌, int_le, int_lt, Option, Some, None, unwrap_or}
use Rattle.mill_base.specs.Sizes.{radius_of}
use Rattle.mill_base.specs.Solids.{Solid}
use Rattle.mill_base.specs.declared.cutter.Cutter.{Cutter}
use Rattle.mill_base.specs.declared.limits.TheConstants.{MAX_RADIUS}
use Rattle.mill_job.specs.declared.fields.JobFields.{JobFields}
use Rattle.mill_job.specs.declared.limits.TheConstants.{SPARE_ARC, SPARE_GRAZE}
use Rattle.mill_margin.specs.Margins.{offset_of}

-- the graze where the job doesn't say: 0 without a slack, else 5 more than twice the slack
abbrev pub graze_by : ℤ → ℤ
graze_by slack = if int_lt (pos 0) slack then (pos 2 *ℤ slack) +ℤ SPARE_GRAZE else pos 0

-- how deep a stock point may lie inside the job's cutter and be shaved off by a rapid
unfoldable pub graze_of : JobFields → ℤ
graze_of job = unwrap_or job.graze (graze_by job.slack)

-- a radius isn't over a slack, or is over 10,000 with it
abbrev pub is_tight : ℤ → ℤ → Bool
is_tight radius slack = int_le radius slack || int_lt MAX_RADIUS (radius +ℤ slack)

-- a graze is under twice the slack, or its offset under twice that of the slack
abbrev pub is_shallow : Cutter → ℤ → ℤ → Bool
is_shallow cutter slack graze = int_lt graze (pos 2 *ℤ slack) || int_lt (offset_of cutter graze) (pos 2 *ℤ offset_of cutter slack)

-- there is a holder, and with the slack around it it isn't over the tip (a flat one where its lower face isn't over the slack), or its radius is over 10,000 with it
abbrev pub is_holder_close : ℤ → Option Solid → Bool
is_holder_close slack None = false
is_holder_close slack (Some holder) = int_le holder.lift (offset_of holder.cutter slack) || int_lt MAX_RADIUS (radius_of holder.cutter +ℤ slack)

-- a tolerance of arcs is given, and with two units more it is over a slack
abbrev pub are_arcs_tight : ℤ → Option ℤ → Bool
are_arcs_tight slack None = false
are_arcs_tight slack (Some tolerance) = int_lt slack (tolerance +ℤ SPARE_ARC)

-- a cutter with the slack around it reaches under the top from the clear height
abbrev pub is_low : JobFields → Cutter → Bool
is_low job cutter = int_lt job.clear (job.top +ℤ offset_of cutter job.slack)
