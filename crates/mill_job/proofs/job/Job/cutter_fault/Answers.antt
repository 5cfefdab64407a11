use Rattle.std.proofs.Common.{◌≡◌, ◌∙◌, true, false, List, [], ◌∷◌, Option, None, Some, refl, rules, sym}
use Rattle.std.specs.Prelude.{int_lt, not}
use Rattle.mill_base.specs.Sizes.{radius_of}
use Rattle.mill_base.specs.declared.cutter.Cutter.{Cutter}
use Rattle.mill_job.specs.Documents.{are_under, slack_faults}
use Rattle.mill_job.specs.Holders.{is_narrow}
use Rattle.mill_job.specs.Slack.{is_low}
use Rattle.mill_job.specs.Tables.{fault_if, first}
use Rattle.mill_job.specs.declared.fault.JobFault.{JobFault}
use Rattle.mill_job.specs.declared.fault.JobFault.TheVariants.{Relation}
use Rattle.mill_job.specs.declared.fields.JobFields.{JobFields}
use Rattle.mill_job.specs.declared.key.Key.TheVariants as key
use Rattle.mill_job.proofs.Faults.{first-append, first-found}
use Rattle.mill_job.proofs.Room.{at_most, has_room}
use Rattle.mill_job.proofs.job.Job.cutter_fault.Goals as goal

pub returns-in-Some-clause-value : goal.returns-in-Some-clause-value
returns-in-Some-clause-value c =
    let job = c.args.self.now.fields in
    let cutter = c.args.cutter.now in
    let wide : int_lt (radius_of cutter) job.band ≡ false = search rules in
    let held : is_narrow (radius_of cutter) job.holder ≡ false = search rules in
    rw (wide, held) (sym (first-found (slack_faults job cutter) _ c.in-Some.fault (sym c.in-Some.ensures.value)))

-- Behind relations that hold, those of the clear height decide.
abbrev lasts : JobFields → Cutter → List (Option JobFault)
lasts job cutter = fault_if (is_low job cutter) (Relation key.Slack key.Clear) ∷ fault_if (not (are_under job cutter)) (Relation key.KeepOut key.Clear) ∷ []

pub returns-then-has_low_clear-clause-value : goal.returns-then-has_low_clear-clause-value
returns-then-has_low_clear-clause-value c =
    let job = c.args.self.now.fields in
    let cutter = c.args.cutter.now in
    let wide : int_lt (radius_of cutter) job.band ≡ false = search rules in
    let held : is_narrow (radius_of cutter) job.holder ≡ false = search rules in
    let low : is_low job cutter ≡ true = sym c.if-has_low_clear.ensures.value in
    let last : first (lasts job cutter) ≡ Some (Relation key.Slack key.Clear) = rw low refl in
    rw (wide, held) (sym (first-append (slack_faults job cutter) (lasts job cutter) (sym c.in_default.ensures.value) ∙ last))

pub returns-then-not-clears_fixtures-clause-value : goal.returns-then-not-clears_fixtures-clause-value
returns-then-not-clears_fixtures-clause-value c =
    let job = c.args.self.now.fields in
    let cutter = c.args.cutter.now in
    let wide : int_lt (radius_of cutter) job.band ≡ false = search rules in
    let held : is_narrow (radius_of cutter) job.holder ≡ false = search rules in
    let high : is_low job cutter ≡ false = sym c.if-has_low_clear.ensures.value in
    let under : are_under job cutter ≡ false = sym c.if-not-clears_fixtures.ensures.value in
    let last : first (lasts job cutter) ≡ Some (Relation key.KeepOut key.Clear) = rw (high, under) refl in
    rw (wide, held) (sym (first-append (slack_faults job cutter) (lasts job cutter) (sym c.in_default.ensures.value) ∙ last))

pub returns-clause-value : goal.returns-clause-value
returns-clause-value c =
    let job = c.args.self.now.fields in
    let cutter = c.args.cutter.now in
    let wide : int_lt (radius_of cutter) job.band ≡ false = search rules in
    let held : is_narrow (radius_of cutter) job.holder ≡ false = search rules in
    let high : is_low job cutter ≡ false = sym c.if-has_low_clear.ensures.value in
    let over : are_under job cutter ≡ true = sym c.if-not-clears_fixtures.ensures.value in
    let last : first (lasts job cutter) ≡ None = rw (high, over) refl in
    rw (wide, held) (sym (first-append (slack_faults job cutter) (lasts job cutter) (sym c.in_default.ensures.value) ∙ last))

pub returns-clause-none : goal.returns-clause-none
returns-clause-none c = λ none.
    let job = c.args.self.now.fields in
    let cutter = c.args.cutter.now in
    let wide : int_lt (radius_of cutter) job.band ≡ false = search rules in
    record {
      cutter_ok = c.requires;
      narrow = at_most _ _ wide;
      wider = c.if-has_narrow_holder.ensures.no refl;
      room = has_room job cutter (c.in_default.ensures.none refl) (c.if-has_low_clear.ensures.no refl) (c.if-not-clears_fixtures.ensures.yes refl);
    }
