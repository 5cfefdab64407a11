-- The first fault of a step, behind keys with which nothing is wrong.
use Rattle.std.proofs.Common.{◌≡◌, ◌++◌, Option, Some, None, Ok, Err, refl}
use Rattle.toml.specs.Data.{Members}
use Rattle.mill_base.specs.declared.cutter.Cutter.{Cutter}
use Rattle.mill_job.proofs.Faults.{first-append, first-found}
use Rattle.mill_job.specs.Cutters.{cutter_faults, cutter_key_faults, cutter_of}
use Rattle.mill_job.specs.Documents.{fit_faults}
use Rattle.mill_job.specs.Keys.{unknown_but}
use Rattle.mill_job.specs.Tables.{checked, first}
use Rattle.mill_job.specs.declared.fault.JobFault.{JobFault}
use Rattle.mill_job.specs.declared.fields.JobFields.{JobFields}
use Rattle.mill_job.specs.Steps.{program_fault, step_fault, step_keys}

-- a refusal is the fault that there is, and a value that is taken has none
refused : {V : Type 0} (found : Option JobFault) (v : V) (fault : JobFault) → Err fault ≡ checked found v → found ≡ Some fault
refused None v fault e = absurd (cc)
refused (Some other) v fault e = cc

pub taken : {V : Type 0} (found : Option JobFault) (v w : V) → Ok w ≡ checked found v → (found ≡ None) × (w ≡ v)
taken None v w e = (refl, cc)
taken (Some other) v w e = absurd (cc)

-- a fault of the cutter's keys, or between them
pub of_cutter : (job : JobFields) (ms : Members) (fault : JobFault) → None ≡ unknown_but step_keys ms → program_fault ms ≡ None
    → Err fault ≡ checked (first (cutter_key_faults ms ++ cutter_faults ms)) (cutter_of ms) → step_fault job ms ≡ Some fault
of_cutter job ms fault known program e =
    rw (← known, program) (first-found (cutter_key_faults ms ++ cutter_faults ms) (fit_faults job (cutter_of ms)) fault (refused _ (cutter_of ms) fault e))

-- behind a cutter that is taken, whether it fits the job decides
pub of_fit : (job : JobFields) (ms : Members) (cutter : Cutter) → None ≡ unknown_but step_keys ms → program_fault ms ≡ None
    → Ok cutter ≡ checked (first (cutter_key_faults ms ++ cutter_faults ms)) (cutter_of ms) → step_fault job ms ≡ first (fit_faults job cutter)
of_fit job ms cutter known program e =
    let (none, is) = taken (first (cutter_key_faults ms ++ cutter_faults ms)) (cutter_of ms) cutter e in
    rw (← known, program, is) (first-append (cutter_key_faults ms ++ cutter_faults ms) (fit_faults job (cutter_of ms)) none)
