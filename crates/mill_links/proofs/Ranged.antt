-- The moves of a link are in the range that calls take.
use Rattle.std.specs.Prelude.{◌≡◌, ℕ, zero, suc, Bool, true, false, if◌then◌else◌, ℤ, pos, ◌-ℤ◌, ◌≤ℤ◌, int_lt, List, [], ◌∷◌, ◌++◌}
use Rattle.std.proofs.Common.{inl, inr, refl, sym, subst, arith}
use Rattle.std.proofs.lemmas.Int.{ints}
use Rattle.std.proofs.lemmas.List.Elements.{Contains-append_cases}
use Rattle.mill_base.specs.Numbers.{Within}
use Rattle.mill_base.specs.Ranges.{IsInRange, MoveInRange, MovesInRange}
use Rattle.mill_base.specs.declared.limits.TheConstants.{MAX_COORDINATE}
use Rattle.mill_base.specs.declared.motion.Move.{Move}
use Rattle.mill_base.specs.declared.points.Pt3.{Pt3}
use Rattle.mill_base.proofs.Ranges.{within_of_unit}
use Rattle.mill_job.specs.Jobs.{IsJob}
use Rattle.mill_job.specs.declared.fields.JobFields.{JobFields}
use Rattle.mill_links.specs.Links.{is_same_point, across, at_height, climb, cross, descend, detour, feed_to, is_over_place, over_stock, peck_count, pecks, plunge, rapid_to}
use Rattle.mill_links.specs.declared.visit.Visit.{Visit}
use Rattle.mill_links.specs.inner.Linking.{link_moves}
use Rattle.mill_links.proofs.Kept.{between}
use Rattle.mill_links.proofs.Overs.{over_ok}
use Rattle.mill_links.proofs.Pecks.{Fit, no_pecks, pecks_fit}

none : MovesInRange []
none m (i, inside, is) = absurd (omega arith)

one : (m : Move) → MoveInRange m → MovesInRange (m ∷ [])
one m ok n (zero, inside, is) = subst MoveInRange is ok
one m ok n (suc i, inside, is) = absurd (omega arith)

both : (a b : List Move) → MovesInRange a → MovesInRange b → MovesInRange (a ++ b)
both a b first rest m member = elim (Contains-append_cases a b m member) [ inl before ↦ first m before | inr after ↦ rest m after ]

at_level : (p : Pt3) (z : ℤ) → IsInRange p → Within MAX_COORDINATE z → IsInRange (at_height p z)
at_level p z ok high = record { x_ok = ok.x_ok; y_ok = ok.y_ok; z_ok = high }

-- pecks between two heights in range
pecks_ranged : (n : ℕ) (depth : ℤ) (at : Pt3) (start z : ℤ) → (pos 0) ≤ℤ depth → IsInRange at → Within MAX_COORDINATE start → Within MAX_COORDINATE z → Fit n depth z at.z
    → MovesInRange (pecks n depth at start z)
pecks_ranged zero depth at start z least ok from high fit = one (feed_to (at_height at start) at) (record { from_ok = at_level at start ok from; to_ok = ok })
pecks_ranged (suc n) depth at start z least ok from high fit =
    let low : Within MAX_COORDINATE (z -ℤ depth) = between MAX_COORDINATE at.z z (z -ℤ depth) ok.z_ok high fit.0 (under z depth least) in
    both (feed_to (at_height at start) (at_height at (z -ℤ depth)) ∷ []) (pecks n depth at (z -ℤ depth) (z -ℤ depth))
    (one (feed_to (at_height at start) (at_height at (z -ℤ depth))) (record { from_ok = at_level at start ok from; to_ok = at_level at (z -ℤ depth) ok low }))
    (pecks_ranged n depth at (z -ℤ depth) (z -ℤ depth) least ok low low fit.1)
  where
    under : (z depth : ℤ) → (pos 0) ≤ℤ depth → (z -ℤ depth) ≤ℤ z
    under z depth least = omega (least, arith, ints)

module _ (job : JobFields) (ok : IsJob job) where
  low_ok : Within MAX_COORDINATE (over_stock job)
  low_ok = within_of_unit job.unit (over_stock job) (over_ok job ok)

  clear_ok : Within MAX_COORDINATE job.clear
  clear_ok = within_of_unit job.unit job.clear ok.clear_ok

  climb_ranged : (from : Pt3) → IsInRange from → MovesInRange (climb job from)
  climb_ranged from from_ok = by (int_lt from.z job.clear)
    where
      by : (t : Bool) → MovesInRange (if t then rapid_to from (at_height from job.clear) ∷ [] else [])
      by true = one (rapid_to from (at_height from job.clear)) (record { from_ok = from_ok; to_ok = at_level from job.clear from_ok clear_ok })
      by false = none

  cross_ranged : (from at : Pt3) → IsInRange from → IsInRange at → MovesInRange (cross job from at)
  cross_ranged from at from_ok at_ok = by (is_over_place from at)
    where
      by : (t : Bool) → MovesInRange (if t then [] else across job from at ∷ [])
      by true = none
      by false =
          one (across job from at)
          (record { from_ok = at_level from job.clear from_ok clear_ok; to_ok = at_level at job.clear at_ok clear_ok })

  descend_ranged : (at : Pt3) → IsInRange at → MovesInRange (descend job at)
  descend_ranged at at_ok = by (int_lt (over_stock job) job.clear)
    where
      by : (t : Bool) → MovesInRange (if t then rapid_to (at_height at job.clear) (at_height at (over_stock job)) ∷ [] else [])
      by true =
          one (rapid_to (at_height at job.clear) (at_height at (over_stock job)))
          (record { from_ok = at_level at job.clear at_ok clear_ok; to_ok = at_level at (over_stock job) at_ok low_ok })
      by false = none

  plunge_ranged : (at : Pt3) → IsInRange at → MovesInRange (plunge job at)
  plunge_ranged at at_ok = by (int_lt job.top at.z) refl
    where
      not_under : (a b : ℤ) → int_lt a b ≡ true → (a -ℤ b) ≤ℤ pos 0
      not_under a b e = omega (e, arith, ints)

      under : (a b : ℤ) → int_lt a b ≡ false → b ≤ℤ a
      under a b e = omega (e, arith, ints)

      by : (t : Bool) → int_lt job.top at.z ≡ t → MovesInRange (plunge job at)
      by true e =
          subst (λ n. MovesInRange (pecks n job.max_cut at (over_stock job) job.top)) (sym (no_pecks job.max_cut (job.top -ℤ at.z) (inr (not_under job.top at.z e))))
          (one (feed_to (at_height at (over_stock job)) at) (record { from_ok = at_level at (over_stock job) at_ok low_ok; to_ok = at_ok }))
      by false e =
          pecks_ranged (peck_count job.max_cut (job.top -ℤ at.z)) job.max_cut at (over_stock job) job.top ok.max_cut_ok.low at_ok low_ok (within_of_unit job.unit job.top ok.top_ok)
          (pecks_fit job.max_cut job.top at.z ok.max_cut_ok.low (under job.top at.z e))

  detour_ranged : (from at : Pt3) → IsInRange from → IsInRange at → MovesInRange (detour job from at)
  detour_ranged from at from_ok at_ok =
      both (climb job from ++ cross job from at ++ descend job at) (plunge job at)
      (both (climb job from ++ cross job from at) (descend job at)
      (both (climb job from) (cross job from at) (climb_ranged from from_ok) (cross_ranged from at from_ok at_ok)) (descend_ranged at at_ok))
      (plunge_ranged at at_ok)

  pub link_ranged : (from : Pt3) (visit : Visit) (straight : Bool) → IsInRange from → IsInRange visit.at → MovesInRange (link_moves job from visit straight)
  link_ranged from visit straight from_ok to_ok = by (is_same_point visit.at from) straight
    where
      by : (t s : Bool) → MovesInRange (if t then [] else if s then feed_to from visit.at ∷ [] else detour job from visit.at)
      by true s = none
      by false true = one (feed_to from visit.at) (record { from_ok = from_ok; to_ok = to_ok })
      by false false = detour_ranged from visit.at from_ok to_ok
