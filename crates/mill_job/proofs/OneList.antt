-- A text means one thing for a job: a text that is a list has no fault, and the other way round.
use Rattle.std.proofs.Common.{◌≡◌, ◌∙◌, ℕ, List, Result, inl, inr, sym}
use Rattle.mill_job.specs.declared.fault.JobFault.{JobFault}
use Rattle.mill_job.specs.declared.fields.JobFields.{JobFields}
use Rattle.mill_job.specs.Lists.{IsListOf}
use Rattle.mill_job.specs.declared.step.Step.{Step}

-- the two cases are told apart by whether the text is UTF-8, and each has one answer
pub one_list : (job : JobFields) (text : List ℕ) (a b : Result (List Step) JobFault) → IsListOf job text a → IsListOf job text b → a ≡ b
one_list job text a b (inl x) (inl y) = x.1 ∙ sym y.1
one_list job text a b (inl x) (inr y) = absurd (y.0 x.0)
one_list job text a b (inr x) (inl y) = absurd (x.0 y.0)
one_list job text a b (inr x) (inr y) = x.1 ∙ sym y.1
