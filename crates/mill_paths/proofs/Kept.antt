-- What a job gives of a lattice and of its levels is in the range that calls take.
use Rattle.std.proofs.Common.{ℕ, ◌<◌, length, get_or, arith}
use Rattle.std.specs.Prelude.{ℤ, ◌<ℤ◌, ◌≤ℤ◌}
use Rattle.std.proofs.lemmas.Int.{ints}
use Rattle.std.proofs.lemmas.List.Elements.{All-get_or}
use Rattle.mill_base.specs.Numbers.{Within}
use Rattle.mill_base.specs.declared.limits.TheConstants.{MAX_COORDINATE}
use Rattle.mill_base.proofs.Ranges.{within_of_unit}
use Rattle.mill_job.specs.Jobs.{IsJob, IsLevel}
use Rattle.mill_job.specs.declared.fields.JobFields.{JobFields}

-- each of its levels
pub level_in_range : (job : JobFields) (k : ℕ) (d : ℤ) → IsJob job → k < length job.levels → Within MAX_COORDINATE (get_or job.levels k d)
level_in_range job k d ok inside =
    let level : IsLevel job.floor job.top (get_or job.levels k d) = All-get_or (IsLevel job.floor job.top) job.levels k d inside ok.levels_ok.within in
    between job.floor job.top (get_or job.levels k d) (within_of_unit job.unit job.floor ok.floor_ok) (within_of_unit job.unit job.top ok.top_ok) level.over_floor level.under_top
  where
    between : (a b z : ℤ) → Within MAX_COORDINATE a → Within MAX_COORDINATE b → a ≤ℤ z → z <ℤ b → Within MAX_COORDINATE z
    between a b z a_ok b_ok low high = let p = a_ok.within in let q = b_ok.within in record { within = omega (arith, ints) }
