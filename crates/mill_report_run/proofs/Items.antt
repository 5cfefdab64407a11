-- The items of all findings.
use Rattle.std.proofs.Common.{◌≡◌, ◌==◌, ℕ, Bool, true, false, List, [], ◌∷◌, length, refl, ap, ◌∙◌}
use Rattle.std.specs.List.{AllZip}
use Rattle.std.specs.Prelude.{ℤ, Option}
use Rattle.mill_base.specs.declared.motion.Move.{Move}
use Rattle.mill_base.specs.declared.points.Tri.{Tri}
use Rattle.mill_document.specs.Details.{failing_data}
use Rattle.mill_job.specs.Columns.{home}
use Rattle.mill_job.specs.declared.fields.JobFields.{JobFields}
use Rattle.mill_load.specs.Programs.{rules_of}
use Rattle.mill_report_run.specs.Reports.{AreFailing, AreItems, IsLift, Texts}
use Rattle.mill_ngc.specs.Lines.{ArePlaces}
use Rattle.mill_ngc.specs.declared.place.LineSpan.{LineSpan}
use Rattle.mill_verify.specs.declared.verdict.Reason.{Reason}
use Rattle.serde_json.specs.Data.{Data}

not_both : (b : Bool) → b ≡ true → b ≡ false → ⊥
not_both b p q = cc

none_is_not_one : (reason : Reason) (found : List Reason) → reason ∷ found ≡ [] → ⊥
none_is_not_one reason found e = cc

-- a list that isn't empty has an item
pub some_found : (found : List Reason) (empty : Bool) → empty ≡ (length found == 0) → empty ≡ false → ¬ (found ≡ [])
some_found [] empty is fails none = not_both empty is fails
some_found (reason ∷ found) empty is fails none = none_is_not_one reason found none

module _ (texts : Texts) (job : JobFields) (part : List Tri) (moves : List Move) where
  -- the items that were made of what was read
  pub are_items : (found : List Reason) (text : List ℕ) (at places : List LineSpan) (given lifts : List (Option ℤ)) (items : List Data) → text ≡ texts.program → at ≡ places → given ≡ lifts
      → ArePlaces (home job) job.unit (rules_of job) texts.program places → AllZip (IsLift job part moves) found lifts → items ≡ failing_data job part moves text at found given → AreItems texts job part moves found items
  are_items found text at places given lifts items same_text same_places same_lifts places_are lifts_are is = record {
    places = places;
    places_are = places_are;
    lifts = lifts;
    lifts_are = lifts_are;
    items_are = is
        ∙ ap (λ (t : List ℕ). failing_data job part moves t at found given) same_text
        ∙ ap (λ (ps : List LineSpan). failing_data job part moves texts.program ps found given) same_places
        ∙ ap (λ (ls : List (Option ℤ)). failing_data job part moves texts.program places found ls) same_lifts;
  }

  -- where there are findings, these are the items of them all
  pub failing_are : (found : List Reason) (items : List Data) → ¬ (found ≡ []) → AreItems texts job part moves found items → AreFailing texts job part moves found items
  failing_are [] items some are = absurd (some refl)
  failing_are (reason ∷ found) items some are = are
