-- A text means one thing: a text that is a job has no fault, and the other way round.
use Rattle.std.proofs.Common.{◌≡◌, ◌∙◌, ℕ, List, Result, inl, inr, sym}
use Rattle.mill_job.specs.Documents.{IsJobOf}
use Rattle.mill_job.specs.declared.fields.JobFields.{JobFields}
use Rattle.mill_job.specs.declared.fault.JobFault.{JobFault}

-- the two cases are told apart by whether the text is UTF-8, and each has one answer
pub one_answer : (text : List ℕ) (a b : Result JobFields JobFault) → IsJobOf text a → IsJobOf text b → a ≡ b
one_answer text a b (inl x) (inl y) = x.1 ∙ sym y.1
one_answer text a b (inl x) (inr y) = absurd (y.0 x.0)
one_answer text a b (inr x) (inl y) = absurd (x.0 y.0)
one_answer text a b (inr x) (inr y) = x.1 ∙ sym y.1
