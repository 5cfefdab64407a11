-- What a text means, once its document and its keys are known.
use Rattle.std.proofs.Common.{◌≡◌, ◌∙◌, ℕ, List, ◌++◌, Some, None, Result, Ok, Err, IsUtf8, refl, sym, ap, inl}
use Rattle.toml.specs.Data.{Members}
use Rattle.toml.specs.Parse.{parse_document}
use Rattle.mill_job.specs.Keys.{every_key, unknown_but}
use Rattle.mill_job.specs.Tables.{first, checked}
use Rattle.mill_job.specs.Cutters.{cutter_faults}
use Rattle.mill_job.specs.Documents.{GivesJob, IsJobOf, job_from, job_in, job_of, key_faults, relation_faults, document_fault}
use Rattle.mill_job.specs.declared.fields.JobFields.{JobFields}
use Rattle.mill_job.specs.declared.fault.JobFault.{JobFault}
use Rattle.mill_job.specs.declared.fault.JobFault.TheVariants.{Syntax, Unknown, Missing, WrongKind, Range, Relation, WantOfMemory}

-- what the text means is an answer to it
pub gives : (text : List ℕ) (answer : Result JobFields JobFault) → IsJobOf text answer → GivesJob text answer
gives text (Ok job) h = h
gives text (Err Syntax) h = h
gives text (Err (Unknown name)) h = h
gives text (Err (Missing key)) h = h
gives text (Err (WrongKind key)) h = h
gives text (Err (Range key)) h = h
gives text (Err (Relation a b)) h = h
gives text (Err WantOfMemory) h = tt

-- where no key is unknown, the answer is decided by the keys' values
pub by_values : (text : List ℕ) (ms : Members) (answer : Result JobFields JobFault) → IsUtf8 text → parse_document text ≡ Some ms → None ≡ unknown_but every_key ms
    → answer ≡ checked (first (key_faults ms ++ cutter_faults ms ++ relation_faults (job_from ms))) (job_from ms) → GivesJob text answer
by_values text ms answer utf8 parsed known value =
    let document : job_of text ≡ checked (document_fault ms) (job_from ms) = ap job_in parsed in
    let values : checked (document_fault ms) (job_from ms) ≡ checked (first (key_faults ms ++ cutter_faults ms ++ relation_faults (job_from ms))) (job_from ms) = rw (← known) refl in
    gives text answer (inl (utf8, value ∙ sym (document ∙ values)))
