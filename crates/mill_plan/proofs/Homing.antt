-- What a program begins with, and the way home, which is added to the moves after the last link: they are in the range that calls take, and the rows go on with them.
use Rattle.std.specs.Prelude.{◌≡◌, ℕ, zero, suc, ◌-◌, Bool, true, false, if◌then◌else◌, ℤ, int_lt, List, [], ◌∷◌, ◌++◌, length, take, drop}
use Rattle.std.proofs.Common.{inl, inr, ap, ◌∙◌, subst, arith}
use Rattle.std.proofs.lemmas.List.{length-append, take_all}
use Rattle.std.proofs.lemmas.List.Elements.{Contains-append_cases}
use Rattle.std.proofs.Math.Seq.{drop-append_seam}
use Rattle.mill_base.specs.Numbers.{Within}
use Rattle.mill_base.specs.Ranges.{IsInRange, MoveInRange, MovesInRange}
use Rattle.mill_base.specs.declared.limits.TheConstants.{MAX_COORDINATE}
use Rattle.mill_base.specs.declared.motion.Move.{Move}
use Rattle.mill_base.specs.declared.points.Pt3.{Pt3}
use Rattle.mill_base.proofs.Ranges.{in_range_of_unit, within_of_unit}
use Rattle.mill_job.specs.Columns.{home}
use Rattle.mill_job.specs.Habits.{is_elsewhere}
use Rattle.mill_job.specs.Jobs.{IsJob}
use Rattle.mill_job.specs.declared.fields.JobFields.{JobFields}
use Rattle.mill_links.specs.Links.{across, at_height, climb, cross, head, is_over_place, rapid_to, stay, way_home}

-- what stands past the old moves is what was added to them
pub past_old : (old added new : List Move) (first : ℕ) → first ≡ length old → new ≡ old ++ added → take (length new - first) (drop first new) ≡ added
past_old old added new first counted joined =
    ap (λ n. take (length new - n) (drop n new)) counted ∙ ap (λ ms. take (length ms - length old) (drop (length old) ms)) joined
    ∙ ap (λ ms. take (length (old ++ added) - length old) ms) (drop-append_seam old added)
    ∙ take_all (length (old ++ added) - length old) added (omega (length-append old added, arith))

none : MovesInRange []
none m (i, inside, is) = absurd (omega arith)

one : (m : Move) → MoveInRange m → MovesInRange (m ∷ [])
one m ok n (zero, inside, is) = subst MoveInRange is ok
one m ok n (suc i, inside, is) = absurd (omega arith)

both : (a b : List Move) → MovesInRange a → MovesInRange b → MovesInRange (a ++ b)
both a b first rest m member = elim (Contains-append_cases a b m member) [ inl before ↦ first m before | inr after ↦ rest m after ]

at_level : (p : Pt3) (z : ℤ) → IsInRange p → Within MAX_COORDINATE z → IsInRange (at_height p z)
at_level p z ok high = record { x_ok = ok.x_ok; y_ok = ok.y_ok; z_ok = high }

module _ (job : JobFields) (from : Pt3) (clear_ok : Within MAX_COORDINATE job.clear) (from_ok : IsInRange from) where
  climbs : (t : Bool) → MovesInRange (if t then rapid_to from (at_height from job.clear) ∷ [] else [])
  climbs true = one (rapid_to from (at_height from job.clear)) (record { from_ok = from_ok; to_ok = at_level from job.clear from_ok clear_ok })
  climbs false = none

  crosses : (at : Pt3) → IsInRange at → (t : Bool) → MovesInRange (if t then [] else across job from at ∷ [])
  crosses at at_ok true = none
  crosses at at_ok false =
      one (across job from at)
      (record { from_ok = at_level from job.clear from_ok clear_ok; to_ok = at_level at job.clear at_ok clear_ok })

pub way_home_ranged : (job : JobFields) (from : Pt3) → IsJob job → IsInRange from → IsInRange (home job) → MovesInRange (way_home job from)
way_home_ranged job from ok from_ok home_ok =
    let clear_ok = within_of_unit job.unit job.clear ok.clear_ok in
    both (climb job from) (cross job from (home job)) (climbs job from clear_ok from_ok (int_lt from.z job.clear))
    (crosses job from clear_ok from_ok (home job) home_ok (is_over_place from (home job)))

pub home_in_range : (job : JobFields) → IsJob job → IsInRange (home job)
home_in_range job ok =
    in_range_of_unit job.unit (home job) (record { x_ok = ok.home_ok.x_ok; y_ok = ok.home_ok.y_ok; z_ok = ok.clear_ok })

-- so are the moves with which a program begins
pub head_ranged : (job : JobFields) → IsInRange (home job) → MovesInRange (head job)
unfolding head
head_ranged job home_ok = by (is_elsewhere job.start)
  where
    waits : MoveInRange (stay (home job))
    waits = record { from_ok = home_ok; to_ok = home_ok }

    by : (t : Bool) → MovesInRange (if t then stay (home job) ∷ stay (home job) ∷ [] else [])
    by true = both (stay (home job) ∷ []) (stay (home job) ∷ []) (one (stay (home job)) waits) (one (stay (home job)) waits)
    by false = none
