-- A document that names no unit has the same unknown keys, in the format with that key and without it.
use Rattle.std.proofs.Common.{◌≡◌, ◌∙◌, sym, refl, ℕ, Bool, true, false, ◌∷◌, ◌++◌, List, Option, Some, None, option_map, Ok, Ordering, Less, Equal, Greater, is_eq, nat_cmp, bytes_eq, inl, inr, IfSome}
use Rattle.std.proofs.lemmas.Map.Text.{is_eq-slice_cmp}
use Rattle.std.proofs.lemmas.Slice.Eq.{bytes_eq-Decides}
use Rattle.std.specs.Cmp.Lexicographic.{slice_cmp}
use Rattle.std.specs.Ordering.{match_ordering}
use Rattle.toml.specs.Data.{Data, Members, no_members, member, get_member}
use Rattle.toml.specs.Parse.{parse_document}
use Rattle.mill_base.specs.declared.unit.Unit.TheVariants.{Hundredth}
use Rattle.mill_job.specs.Keys.{name_of, every_key, other_keys, is_name_of, unknown_but}
use Rattle.mill_job.specs.Tables.{first, checked, text_fault_if_there}
use Rattle.mill_job.specs.Cutters.{cutter_faults}
use Rattle.mill_job.specs.Documents.{unit_of, unit_texts, key_faults_in, relation_faults, job_with, document_fault, job_in}
use Rattle.mill_job.specs.NoUnit.{NamesNoUnit, hundredths_fault, in_hundredths, MeansWithout, IsInHundredths}
use Rattle.mill_job.specs.declared.fields.JobFields.{JobFields}
use Rattle.mill_job.specs.declared.key.Key.TheVariants as key
use Rattle.mill_job.specs.declared.fault.JobFault.{JobFault}
use Rattle.mill_job.specs.declared.fault.JobFault.TheVariants.{Unknown}

-- ---- a member that isn't the unit

-- what no look-up of the unit finds in a member, it doesn't find in the others, and the member's key is another
record IsOther (text : List ℕ) (ms : Members) : Type 0 where
  apart : is_eq (slice_cmp nat_cmp (name_of key.Unit) text) ≡ false
  rest : NamesNoUnit ms

by_order : (r : Ordering) (found : Data) (others : Option Data) → match_ordering r others (Some found) others ≡ None → (is_eq r ≡ false) × (others ≡ None)
by_order Less found others h = (refl, h)
by_order Equal found others h = absurd (cc)
by_order Greater found others h = (refl, h)

is_other_member : (text : List ℕ) (value : Data) (ms : Members) → NamesNoUnit (member text value ms) → IsOther text ms
is_other_member text value ms h =
    let both = by_order (slice_cmp nat_cmp (name_of key.Unit) text) value (get_member (name_of key.Unit) ms) h in
    record { apart = both.0; rest = both.1 }

turned : (a b : List ℕ) (t : Bool) → bytes_eq a b ≡ false → bytes_eq b a ≡ t → t ≡ false
turned a b false differ e = refl
turned a b true differ e =
    let same : bytes_eq a b ≡ true = (bytes_eq-Decides a b).1 (sym ((bytes_eq-Decides b a).0 e)) in
    absurd (cc)

not_unit : (text : List ℕ) → is_eq (slice_cmp nat_cmp (name_of key.Unit) text) ≡ false → bytes_eq text (name_of key.Unit) ≡ false
not_unit text h =
    turned (name_of key.Unit) text (bytes_eq text (name_of key.Unit)) (sym (is_eq-slice_cmp (name_of key.Unit) text) ∙ h) refl

known_is_other : (text : List ℕ) → bytes_eq text (name_of key.Unit) ≡ false → is_name_of every_key text ≡ is_name_of other_keys text
unfolding is_name_of
known_is_other text h = rw h refl

-- ---- the document

same_unknown : (ms : Members) → NamesNoUnit ms → unknown_but every_key ms ≡ unknown_but other_keys ms
same_unknown no_members h = refl
same_unknown (member text value ms) h =
    let other = is_other_member text value ms h in
    rw (known_is_other text (not_unit text other.apart), same_unknown ms other.rest) refl

unit_is : (ms : Members) → NamesNoUnit ms → unit_of ms ≡ Hundredth
unfolding unit_of
unit_is ms h = rw h refl

unit_is_fine : (ms : Members) → NamesNoUnit ms → text_fault_if_there key.Unit unit_texts ms ≡ None
unfolding text_fault_if_there
unit_is_fine ms h = rw h refl

none_between : (unknown : Option (List ℕ)) (faults : List (Option JobFault)) → first (option_map Unknown unknown ∷ None ∷ faults) ≡ first (option_map Unknown unknown ∷ faults)
none_between None faults = refl
none_between (Some text) faults = refl

same_fault : (ms : Members) → NamesNoUnit ms → document_fault ms ≡ hundredths_fault ms
same_fault ms h =
    rw (unit_is_fine ms h, unit_is ms h, same_unknown ms h)
    (none_between (unknown_but other_keys ms) (key_faults_in Hundredth ms ++ cutter_faults ms ++ relation_faults (job_with Hundredth ms)))

by_document : (document : Option Members) → IfSome document NamesNoUnit → job_in document ≡ in_hundredths document
by_document None h = refl
by_document (Some ms) h = rw (same_fault ms h, unit_is ms h) refl

pub means_without : MeansWithout
means_without text h = by_document (parse_document text) h

-- ---- the job's unit

unit_of_checked : (fault : Option JobFault) (made job : JobFields) → made.unit ≡ Hundredth → Ok job ≡ checked fault made → job.unit ≡ Hundredth
unit_of_checked None made job is e = cc
unit_of_checked (Some fault) made job is e = absurd (cc)

unit_in : (document : Option Members) (job : JobFields) → Ok job ≡ in_hundredths document → job.unit ≡ Hundredth
unit_in None job e = absurd (cc)
unit_in (Some ms) job e = unit_of_checked (hundredths_fault ms) (job_with Hundredth ms) job refl e

pub is_in_hundredths : IsInHundredths
is_in_hundredths text job lacks (inl reads) = unit_in (parse_document text) job (reads.1 ∙ means_without text lacks)
is_in_hundredths text job lacks (inr other) = absurd (cc)
