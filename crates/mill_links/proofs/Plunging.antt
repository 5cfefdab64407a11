-- Feeds straight down that are added to a list, peck by peck.
use Rattle.std.specs.Prelude.{◌≡◌, ℕ, suc, ℤ, pos, ◌-ℤ◌, ◌≤ℤ◌, List, [], ◌∷◌, ◌++◌}
use Rattle.std.proofs.Common.{refl, ap, ◌∙◌, arith}
use Rattle.std.proofs.lemmas.Int.{ints}
use Rattle.std.proofs.lemmas.List.{append_assoc}
use Rattle.mill_base.specs.Numbers.{Within}
use Rattle.mill_base.specs.declared.limits.TheConstants.{MAX_COORDINATE}
use Rattle.mill_base.specs.declared.motion.Move.{Move}
use Rattle.mill_base.specs.declared.points.Pt3.{Pt3}
use Rattle.mill_base.proofs.Ranges.{within_of_unit}
use Rattle.mill_job.specs.Jobs.{IsJob}
use Rattle.mill_job.specs.declared.fields.JobFields.{JobFields}
use Rattle.mill_links.specs.Links.{at_height, feed_to, over_stock, peck_count, pecks, plunge}
use Rattle.mill_links.specs.inner.Linking.{GoesOn}
use Rattle.mill_links.proofs.Joining.{on_more, on_on, on_same}
use Rattle.mill_links.proofs.Kept.{between}
use Rattle.mill_links.proofs.Pecks.{Fit, pecks_fit}

-- the list has the first pecks of the way down, so many are left, the next feed begins at the height start, and a peck ends the depth under the height z
pub record Plunges (job : JobFields) (at : Pt3) (old out : List Move) (left : ℕ) (start z : ℤ) : Type 0 where
  pub on : GoesOn old out
  pub rest : out ++ pecks left job.max_cut at start z ≡ old ++ plunge job at
  pub high : z ≤ℤ job.top
  pub fit : at.z ≤ℤ job.top → Fit left job.max_cut z at.z

module _ (job : JobFields) (at : Pt3) (old : List Move) (ok : IsJob job) where
  pub at_first : Plunges job at old old (peck_count job.max_cut (job.top -ℤ at.z)) (over_stock job) job.top
  at_first = record {
    on = on_same old old refl;
    rest = refl;
    high = itself job.top;
    fit = λ under. pecks_fit job.max_cut job.top at.z ok.max_cut_ok.low under;
  }
    where
      itself : (a : ℤ) → a ≤ℤ a
      itself a = omega (arith, ints)

  -- one more peck
  pub one_more : (out new : List Move) (left : ℕ) (start z : ℤ) → at.z ≤ℤ job.top → Plunges job at old out (suc left) start z
      → new ≡ out ++ feed_to (at_height at start) (at_height at (z -ℤ job.max_cut)) ∷ [] → Plunges job at old new left (z -ℤ job.max_cut) (z -ℤ job.max_cut)
  one_more out new left start z under so_far more = record {
    on = on_on old out new so_far.on (on_more out new (feed_to (at_height at start) (at_height at (z -ℤ job.max_cut)) ∷ []) more);
    rest = ap (λ l. l ++ pecks left job.max_cut at (z -ℤ job.max_cut) (z -ℤ job.max_cut)) more
        ∙ append_assoc out (feed_to (at_height at start) (at_height at (z -ℤ job.max_cut)) ∷ []) (pecks left job.max_cut at (z -ℤ job.max_cut) (z -ℤ job.max_cut)) ∙ so_far.rest;
    high = lower z job.max_cut job.top ok.max_cut_ok.low so_far.high;
    fit = λ h. (so_far.fit h).1;
  }
    where
      lower : (z d top : ℤ) → (pos 0) ≤ℤ d → z ≤ℤ top → (z -ℤ d) ≤ℤ top
      lower z d top least high = omega (least, high, arith, ints)

  -- it ends at a height that is stored as it is
  pub one_within : (out : List Move) (left : ℕ) (start z : ℤ) → Within MAX_COORDINATE at.z → at.z ≤ℤ job.top → Plunges job at old out (suc left) start z
      → Within MAX_COORDINATE (z -ℤ job.max_cut)
  one_within out left start z at_ok under so_far =
      between MAX_COORDINATE at.z job.top (z -ℤ job.max_cut) at_ok (within_of_unit job.unit job.top ok.top_ok) (so_far.fit under).0
      (lower z job.max_cut job.top ok.max_cut_ok.low so_far.high)
    where
      lower : (z d top : ℤ) → (pos 0) ≤ℤ d → z ≤ℤ top → (z -ℤ d) ≤ℤ top
      lower z d top least high = omega (least, high, arith, ints)

  -- and the last feed
  pub at_last : (out new : List Move) (start z : ℤ) → Plunges job at old out 0 start z → new ≡ out ++ feed_to (at_height at start) at ∷ [] → new ≡ old ++ plunge job at
  at_last out new start z so_far more = more ∙ so_far.rest
