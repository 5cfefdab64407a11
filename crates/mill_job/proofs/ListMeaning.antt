-- What a list's text means, once its document and its steps are known.
use Rattle.std.proofs.Common.{◌≡◌, ◌∙◌, ◌⊎◌, ap, sym, refl, ℕ, List, [], ◌∷◌, Option, Some, None, Result, Ok, Err, IfOk, IfErr, IsUtf8, Vec, Global, inl, inr}
use Rattle.toml.specs.Data.{Members}
use Rattle.toml.specs.Parse.{parse_document}
use Rattle.mill_job.specs.Keys.{unknown_but}
use Rattle.mill_job.specs.Tables.{first}
use Rattle.mill_job.specs.declared.fault.JobFault.{JobFault}
use Rattle.mill_job.specs.declared.fault.JobFault.TheVariants.{Syntax, Unknown, Missing, WrongKind, Range, Relation, WantOfMemory}
use Rattle.mill_job.specs.declared.fields.JobFields.{JobFields}
use Rattle.mill_job.specs.declared.key.Key.TheVariants.{Steps}
use Rattle.mill_job.specs.Lists.{GivesList, IsListOf, each_fault, list_fault, list_in, steps_fault, steps_of, tables_at}
use Rattle.mill_job.specs.declared.step.Step.{Step}

-- a refusal that the text means is an answer to it
gives : (job : JobFields) (text : List ℕ) (fault : JobFault) → IsListOf job text (Err fault) → GivesList job text (Err fault)
gives job text Syntax h = h
gives job text (Unknown name) h = h
gives job text (Missing key) h = h
gives job text (WrongKind key) h = h
gives job text (Range key) h = h
gives job text (Relation a b) h = h
gives job text WantOfMemory h = tt

-- the document's first fault is the text's
pub by_fault : (job : JobFields) (text : List ℕ) (ms : Members) (fault : JobFault) → IsUtf8 text → parse_document text ≡ Some ms → list_fault job ms ≡ Some fault → GivesList job text (Err fault)
by_fault job text ms fault utf8 parsed found =
    let means : list_in job (Some ms) ≡ Err fault = rw found refl in
    gives job text fault (inl (utf8, sym (ap (list_in job) parsed ∙ means)))

-- without one the list is that of its tables
by_steps : (job : JobFields) (text : List ℕ) (ms : Members) (steps : Vec Step Global) → IsUtf8 text → parse_document text ≡ Some ms → list_fault job ms ≡ None → steps.items ≡ steps_of ms
    → GivesList job text (Ok steps)
by_steps job text ms steps utf8 parsed fine are =
    let means : list_in job (Some ms) ≡ Ok (steps_of ms) = rw fine refl in
    inl (utf8, ap Ok are ∙ sym (ap (list_in job) parsed ∙ means))

-- behind a document whose one key is known, the steps decide
abbrev pub steps_first : JobFields → Members → Option JobFault
steps_first job ms = first (steps_fault ms ∷ each_fault job (tables_at ms) ∷ [])

known_key : (job : JobFields) (ms : Members) → None ≡ unknown_but (Steps ∷ []) ms → list_fault job ms ≡ steps_first job ms
known_key job ms known = rw (← known) refl

pub by_answer : (job : JobFields) (text : List ℕ) (ms : Members) (answer : Result (Vec Step Global) JobFault) → IsUtf8 text → parse_document text ≡ Some ms → None ≡ unknown_but (Steps ∷ []) ms
    → IfOk answer (λ steps. (steps_first job ms ≡ None) × (steps.items ≡ steps_of ms)) → IfErr answer (λ fault. (steps_first job ms ≡ Some fault) ⊎ (fault ≡ WantOfMemory)) → GivesList job text answer
by_answer job text ms (Ok steps) utf8 parsed known ok err = by_steps job text ms steps utf8 parsed (known_key job ms known ∙ ok.0) ok.1
by_answer job text ms (Err fault) utf8 parsed known ok (inl found) = by_fault job text ms fault utf8 parsed (known_key job ms known ∙ found)
by_answer job text ms (Err fault) utf8 parsed known ok (inr short) = rw short tt
