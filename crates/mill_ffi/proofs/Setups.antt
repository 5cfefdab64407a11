-- What the reading of three texts comes to.
use Rattle.std.proofs.Common.{◌≡◌, inl, inr, refl, subst}
use Rattle.std.specs.Prelude.{◌≢◌, ℕ, false, List, Result, Ok, Err, IfErr}
use Rattle.mill_base.specs.declared.points.Tri.{Tri}
use Rattle.mill_job.specs.Documents.{IsJobOf}
use Rattle.mill_job.specs.declared.fault.JobFault.{JobFault}
use Rattle.mill_job.specs.declared.fields.JobFields.{JobFields}
use Rattle.mill_job.proofs.OneAnswer.{one_answer}
use Rattle.mill_base.specs.declared.motion.Move.{Move}
use Rattle.mill_ngc.specs.Pieces.{Reading, Going, Failed, answer, at_end, last_answer}
use Rattle.mill_said.specs.declared.fault.NgcFault.{NgcFault}
use Rattle.mill_ffi_data.specs.declared.fault.Fault.{Fault}
use Rattle.mill_ffi_data.specs.declared.fault.Fault.TheVariants as fault
use Rattle.mill_ffi_data.specs.declared.raw.RawVerdict.{RawVerdict}
use Rattle.mill_ffi.specs.declared.setup.Setup.{Setup}
use Rattle.mill_ffi.specs.declared.setup.Stop.{Stop}
use Rattle.mill_ffi.specs.Judged.{IsSetupCause, IsVerdictCause, ReadsSetup}
use Rattle.mill_ffi.specs.Plans.{IsUnread, told_of_setup}
use Rattle.mill_ffi.specs.inner.Reading.{IsJobCause, IsProgramCause, IsUnfitPart}

-- ---- job and part

-- a text is one job
same_job : (job_text : List ℕ) (job other : JobFields) → IsJobOf job_text (Ok job) → IsJobOf job_text (Ok other) → job ≡ other
same_job job_text job other read other_read = let e = one_answer job_text (Ok job) (Ok other) read other_read in cc

no_job : (job_text : List ℕ) (first : JobFault) (job : JobFields) → IsJobOf job_text (Err first) → IsJobOf job_text (Ok job) → ⊥
no_job job_text first job refused read = let e = one_answer job_text (Err first) (Ok job) refused read in cc

module _ (job_text part_text : List ℕ) (told : RawVerdict) (kind : Fault) where
  -- there is no job
  pub job_stops : IsJobCause job_text told kind → IsSetupCause job_text part_text told kind
  job_stops (inl memory) = inl memory
  job_stops (inr refused) = inr (inl refused)

  -- there is no part for the job that was read
  pub part_stops : (job : JobFields) → IsJobOf job_text (Ok job) → IsUnfitPart job part_text told kind → IsSetupCause job_text part_text told kind
  part_stops job read (inl (inl memory)) = inl memory
  part_stops job read (inl (inr refused)) = inr (inr (inl (record { job = job; job_is = read; first = refused.first; refused = refused.refused; kind_ok = refused.kind_ok; told_ok = refused.told_ok })))
  part_stops job read (inr high) = inr (inr (inr (record {
    job = job;
    part = high.part;
    rounded = high.read.rounded;
    height = high.height;
    job_is = read;
    part_is = high.read.is;
    greatest = high.high.greatest;
    over = high.high.over;
    kind_ok = high.kind_ok;
    told_ok = high.told_ok;
  })))

  -- ---- job and part of a plan

  -- no job is read, so none that asks for a spindle
  no_spindle : IsJobCause job_text told kind → (job : JobFields) → IsJobOf job_text (Ok job) → kind ≢ fault.Memory → job.spindle ≡ false
  no_spindle (inl memory) job read unlike = absurd (unlike memory.kind_ok)
  no_spindle (inr refused) job read unlike = absurd (no_job job_text refused.first job refused.refused read)

  pub unread_job : IsJobCause job_text told kind → IsUnread job_text part_text (told_of_setup told) kind
  unread_job cause = record { said = told; cause = job_stops cause; told_ok = refl; still = no_spindle cause }

  -- there is no part for the job that was read, which asks for none
  pub unread_part : (job : JobFields) → IsJobOf job_text (Ok job) → job.spindle ≡ false → IsUnfitPart job part_text told kind → IsUnread job_text part_text (told_of_setup told) kind
  unread_part job read off cause = record {
    said = told;
    cause = part_stops job read cause;
    told_ok = refl;
    still = λ other other_read unlike. subst (λ (j : JobFields). j.spindle ≡ false) (same_job job_text job other read other_read) off;
  }

-- where there is no part, in one
pub setup_stops : (job_text part_text : List ℕ) (job : JobFields) (r : Result Setup Stop) → IsJobOf job_text (Ok job) → IfErr r (λ stop. IsUnfitPart job part_text stop.told stop.fault)
    → IfErr r (λ stop. IsSetupCause job_text part_text stop.told stop.fault)
setup_stops job_text part_text job (Ok s) read cause = tt
setup_stops job_text part_text job (Err stop) read cause = part_stops job_text part_text stop.told stop.fault job read cause

-- ---- why there is no verdict

module _ (job_text part_text : List ℕ) (told : RawVerdict) (kind : Fault) where
  pub program_stops : (program_text : List ℕ) (job : JobFields) (part : List Tri) → ReadsSetup job_text part_text job part → IsProgramCause job program_text told kind → IsVerdictCause job_text part_text program_text told kind
  program_stops program_text job part setup_is cause = elim cause [
    | inl memory ↦ inl (inl memory)
    | inr refused ↦ inr (record { job = job; part = part; setup_is = setup_is; first = refused.first; refused = refused.refused; kind_ok = refused.kind_ok; told_ok = refused.told_ok })
  ]

-- ---- a program's text

-- a reader that has failed ends with its fault
pub failed_end : (reader : Reading) (moves : List Move) (first : NgcFault) → Err first ≡ answer reader → Err first ≡ last_answer (at_end (reader, moves)).0
failed_end (Going p line) moves first e = absurd cc
failed_end (Failed other) moves first e = e
