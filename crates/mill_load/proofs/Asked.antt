-- What a job asks of its programs.
use Rattle.std.proofs.Common.{◌≡◌, Bool, true, false, refl}
use Rattle.std.specs.Prelude.{not, ◌&&◌}
use Rattle.mill_job.specs.Habits.{are_for_machine, is_elsewhere}
use Rattle.mill_job.specs.Jobs.{IsJob}
use Rattle.mill_job.specs.declared.fields.JobFields.{JobFields}
use Rattle.mill_job.specs.declared.habits.Words.{Words}
use Rattle.mill_job.specs.declared.habits.Words.TheVariants.{Strict, Machine}
use Rattle.mill_load.specs.Programs.{dialect_of, rules_of}
use Rattle.mill_ngc.specs.Readings.{MayHave}

-- a job that asks for no spindle asks only where its programs start, and which words they have
pub asks_start : (job : JobFields) → job.spindle ≡ false → rules_of job ≡ record { from_anywhere = is_elsewhere job.start; needs_spindle = false; words = dialect_of job.words job }
unfolding rules_of
asks_start job off = rw off refl

-- programs for a machine start elsewhere than over home
pub may_have : (job : JobFields) → IsJob job → MayHave (is_elsewhere job.start) (dialect_of job.words job)
may_have job ok = by job.words (is_elsewhere job.start) ok.away
  where
    by : (words : Words) (begins : Bool) → (are_for_machine words && not begins) ≡ false → MayHave begins (dialect_of words job)
    by Strict begins away = tt
    by Machine true away = tt
    by Machine false away = absurd cc
