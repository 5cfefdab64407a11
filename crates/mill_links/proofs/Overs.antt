-- The heights from which nothing of a job's tool is under the top of the stock, and under what the tool has to keep off.
use Rattle.std.specs.Prelude.{◌≡◌, ◌≤◌, ℤ, pos, nat_abs, ◌+ℤ◌, ◌-ℤ◌, ◌<ℤ◌, ◌≤ℤ◌, Option, Some, None, IfSome}
use Rattle.std.proofs.Common.{refl, ap, ◌∙◌, subst, sym, FitsSigned, w32, arith}
use Rattle.std.proofs.lemmas.Int.{ints, to_z-of_z}
use Rattle.mill_base.proofs.Extremes.{greater_least}
use Rattle.mill_base.proofs.Machine.{kept, stored}
use Rattle.mill_base.proofs.Ranges.{within_of_unit}
use Rattle.mill_base.proofs.SolidLemmas.{higher_once}
use Rattle.mill_base.specs.Numbers.{Within}
use Rattle.mill_base.specs.Solids.{IsLift, Solid, higher}
use Rattle.mill_base.specs.Units.{greatest_of}
use Rattle.mill_base.specs.declared.limits.TheConstants.{MAX_COORDINATE}
use Rattle.mill_gouge.specs.Lifts.{held_under_tip_of, low_of, under_tip_of}
use Rattle.mill_job.proofs.Room.{over_stock as room_over_stock}
use Rattle.mill_job.proofs.SolidFacts.{holder_lift, inner_lift}
use Rattle.mill_job.specs.Jobs.{IsJob, tool_of}
use Rattle.mill_job.specs.Solids.{holder_solid_of, outer_of}
use Rattle.mill_job.specs.declared.fields.JobFields.{JobFields}
use Rattle.mill_links.specs.Links.{over_stock}
use Rattle.mill_links.proofs.Kept.{between, fits_within, unit_coordinate}
use Rattle.mill_margin.specs.Margins.{offset_of}

-- a tip that isn't under the tool's is over each height that the tool's is over
pub lifted_over : (a z l : ℤ) → a ≤ℤ z → (pos 0) ≤ℤ l → a ≤ℤ higher (pos 1) z l
lifted_over a z l over least = rw (higher_once z l) (up a z l over least)
  where
    up : (a z l : ℤ) → a ≤ℤ z → (pos 0) ≤ℤ l → a ≤ℤ (z +ℤ l)
    up a z l h k = omega (h, k, arith, ints)

module _ (job : JobFields) (ok : IsJob job) where
  abbrev offset : ℤ
  offset = offset_of job.cutter job.slack

  offset_least : (pos 0) ≤ℤ offset
  offset_least = plain offset (inner_lift job ok).low
    where
      plain : (o : ℤ) → (pos 0) ≤ℤ ((pos 0) +ℤ o) → (pos 0) ≤ℤ o
      plain o h = omega (h, arith, ints)

  -- it is from the top of the stock to the clear height
  pub top_least : job.top ≤ℤ over_stock job
  unfolding over_stock
  top_least = up job.top offset offset_least
    where
      up : (t o : ℤ) → (pos 0) ≤ℤ o → t ≤ℤ (t +ℤ o)
      up t o h = omega (h, arith, ints)

  pub clear_most : over_stock job ≤ℤ job.clear
  unfolding over_stock
  clear_most = room_over_stock job job.cutter ok.room

  pub over_ok : Within (greatest_of job.unit) (over_stock job)
  over_ok = between (greatest_of job.unit) job.top job.clear (over_stock job) ok.top_ok ok.clear_ok top_least clear_most

  -- no solid reaches farther under its tip
  low_most : low_of (tool_of job) ≤ℤ offset
  low_most =
      greater_least (under_tip_of (outer_of job)) (held_under_tip_of (holder_solid_of job)) offset
      (greater_least (pos 0 -ℤ (outer_of job).lift) (pos 0) offset (itself offset) offset_least)
      (held (holder_solid_of job) (holder_lift job ok))
    where
      itself : (o : ℤ) → (pos 0 -ℤ (pos 0 -ℤ o)) ≤ℤ o
      itself o = omega (arith, ints)

      down : (l o : ℤ) → (pos 0) <ℤ l → (pos 0) ≤ℤ o → (pos 0 -ℤ l) ≤ℤ o
      down l o h k = omega (h, k, arith, ints)

      held : (o : Option Solid) → IfSome o (λ h. (pos 0) <ℤ h.lift) → held_under_tip_of o ≤ℤ offset
      held None over = offset_least
      held (Some holder) over = greater_least (pos 0 -ℤ holder.lift) (pos 0) offset (down holder.lift offset over offset_least) offset_least

  -- and at the clear height over all that stays under it by as much as the cutter with the slack around it reaches under its tip
  pub over_part : (z : ℤ) → job.clear ≤ℤ z → (job.clear -ℤ offset) ≤ℤ (z -ℤ low_of (tool_of job))
  over_part z over = by job.clear offset (low_of (tool_of job)) over low_most
    where
      by : (c o l : ℤ) → c ≤ℤ z → l ≤ℤ o → (c -ℤ o) ≤ℤ (z -ℤ l)
      by c o l h k = omega (h, k, arith, ints)

  -- ---- as it is worked out of the top and the outer solid's lift

  over_kept : FitsSigned w32 (over_stock job)
  over_kept = fits_within (over_stock job) (within_of_unit job.unit (over_stock job) over_ok)

  module _ (lift : ℤ) (lift_ok : IsLift lift) (lift_is : lift ≡ (outer_of job).lift) where
    less_lift : (stored w32 job.top -ℤ stored w32 lift) ≡ over_stock job
    unfolding over_stock
    less_lift =
        ap (λ (t : ℤ). t -ℤ stored w32 lift) (unit_coordinate job.unit job.top ok.top_ok)
        ∙ ap (λ (l : ℤ). job.top -ℤ l) (kept w32 lift MAX_COORDINATE (small lift lift_ok) refl ∙ lift_is) ∙ less job.top offset
      where
        small : (l : ℤ) → IsLift l → nat_abs l ≤ MAX_COORDINATE
        small l h = omega (h, arith, ints)

        less : (t o : ℤ) → (t -ℤ (pos 0 -ℤ o)) ≡ (t +ℤ o)
        less t o = omega (arith, ints)

    pub over_fits : FitsSigned w32 (stored w32 job.top -ℤ stored w32 lift)
    over_fits = subst (λ (z : ℤ). FitsSigned w32 z) (sym less_lift) over_kept

    pub over_stored : stored w32 (stored w32 job.top -ℤ stored w32 lift) ≡ over_stock job
    over_stored = ap (stored w32) less_lift ∙ to_z-of_z w32 (over_stock job) over_kept
