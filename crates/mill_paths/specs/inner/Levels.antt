-- The waterlines at a job's levels, one at a time, and the visits along them. It serves the functions within.
use Rattle.std.specs.Prelude.{ℕ, ℤ, pos, slice_index_or}
use Rattle.mill_base.specs.declared.points.Pt3.{Pt3}
use Rattle.mill_job.specs.declared.fields.JobFields.{JobFields}
use Rattle.mill_links.specs.declared.visit.Visit.{Visit}

-- the level of this number
abbrev pub level_at : JobFields → ℕ → ℤ
level_at job number = slice_index_or job.levels number (pos 0)

-- the visit at a point
abbrev pub point_visit : ℤ → Pt3 → Visit
point_visit step p = record { at = p; step = step }
