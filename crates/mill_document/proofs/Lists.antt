-- The items of the findings, one after another.
use Rattle.std.proofs.Common.{◌≡◌, ℕ, zero, suc, ◌+◌, ◌<◌, List, [], ◌∷◌, ◌++◌, length, get_or, take, refl, ap, ◌∙◌, arith}
use Rattle.std.specs.Prelude.{ℤ, Option, Result, Ok, Err, IfOk}
use Rattle.mill_base.specs.declared.memory.WantOfMemory.{WantOfMemory}
use Rattle.serde_json.specs.Data.{Data}
use Rattle.serde_json.specs.View.{view}
use Rattle.serde_json.specs.declared.value.Value.{Value}
use Rattle.mill_base.specs.declared.motion.Move.{Move}
use Rattle.mill_base.specs.declared.points.Tri.{Tri}
use Rattle.mill_document.specs.Details.{failing_data, failure_of, place_at, told_of, top_met, words_at}
use Rattle.mill_document.specs.Documents.{failure_data}
use Rattle.mill_document.specs.declared.failure.Failure.{Failure}
use Rattle.mill_report.specs.Findings.{move_of}
use Rattle.mill_job.specs.declared.fields.JobFields.{JobFields}
use Rattle.mill_ngc.specs.declared.place.LineSpan.{LineSpan}
use Rattle.mill_verify.specs.declared.verdict.Reason.{Reason}

module _ (job : JobFields) (part : List Tri) (moves : List Move) (text : List ℕ) (places : List LineSpan) where
  failing_next : (found : List Reason) (lifts : List (Option ℤ)) (i : ℕ) (reason : Reason) (lift : Option ℤ) → i < length found → i < length lifts
      → failing_data job part moves text places (take (suc i) found) (take (suc i) lifts)
      ≡ failing_data job part moves text places (take i found) (take i lifts) ++ told_of job part moves text places (get_or found i reason) (get_or lifts i lift) ∷ []
  failing_next [] lifts i reason lift there lift_there = absurd (omega arith)
  failing_next (r ∷ found) [] i reason lift there lift_there = absurd (omega arith)
  failing_next (r ∷ found) (l ∷ lifts) zero reason lift there lift_there = refl
  failing_next (r ∷ found) (l ∷ lifts) (suc i) reason lift there lift_there =
      ap (λ items. told_of job part moves text places r l ∷ items) (failing_next found lifts i reason lift (omega arith) (omega arith))

  -- one item more
  pub failing_more : (found : List Reason) (lifts : List (Option ℤ)) (i : ℕ) (reason : Reason) (lift : Option ℤ) → i < length found → i < length lifts
      → failing_data job part moves text places (take (i + 1) found) (take (i + 1) lifts)
      ≡ failing_data job part moves text places (take i found) (take i lifts) ++ told_of job part moves text places (get_or found i reason) (get_or lifts i lift) ∷ []
  failing_more found lifts i reason lift there lift_there =
      let next : i + 1 ≡ suc i = omega arith in
      ap (λ n. failing_data job part moves text places (take n found) (take n lifts)) next ∙ failing_next found lifts i reason lift there lift_there

  -- what is told of one finding
  pub told_is : (reason : Reason) (lift : Option ℤ) (place : LineSpan) (words : List ℕ) (failure : Failure) (top : ℤ) → place ≡ place_at places (move_of reason) → words ≡ words_at text place
      → failure ≡ failure_of job part moves reason place.line top lift → top ≡ top_met job moves reason → failure_data job.unit words failure ≡ told_of job part moves text places reason lift
  told_is reason lift place words failure top place_is words_are failure_is top_is =
      ap (λ (w : List ℕ). failure_data job.unit w failure) words_are
      ∙ ap (λ (f : Failure). failure_data job.unit (words_at text place) f) (failure_is ∙ ap (λ (t : ℤ). failure_of job part moves reason place.line t lift) top_is)
      ∙ ap (λ (p : LineSpan). failure_data job.unit (words_at text p) (failure_of job part moves reason p.line (top_met job moves reason) lift)) place_is

-- data that is the same as what was made
pub made_as : (r : Result Value WantOfMemory) (a b : Data) → a ≡ b → IfOk r (λ v. view v ≡ a) → IfOk r (λ v. view v ≡ b)
made_as (Ok v) a b same is = is ∙ same
made_as (Err e) a b same is = tt
