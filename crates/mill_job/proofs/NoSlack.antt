-- The solids of a job that asks for no slack, no overcut and no graze are its cutter, at the tool's tip, and its holder.
use Rattle.std.proofs.Common.{◌≡◌, ◌∙◌, ℕ, ◌/◌, ap, refl, sym, arith}
use Rattle.std.proofs.lemmas.Int.{ints}
use Rattle.std.specs.Prelude.{ℤ, pos, neg_ℤ, nat_abs, ◌+ℤ◌, ◌-ℤ◌, ◌*ℤ◌, ◌<ℤ◌, ◌≤ℤ◌, Option, Some, None, IfSome}
use Rattle.mill_base.proofs.Integers.{zero-mul-ℤ}
use Rattle.mill_base.specs.Numbers.{ceil_div, square}
use Rattle.mill_base.specs.Sizes.{radius_of}
use Rattle.mill_base.specs.Solids.{IsSolid, Solid, at_tip}
use Rattle.mill_base.specs.declared.cutter.Cutter.{Cutter}
use Rattle.mill_base.specs.declared.cutter.Cutter.TheVariants.{Flat, Ball, Cone}
use Rattle.mill_base.specs.declared.limits.TheConstants.{MAX_RADIUS}
use Rattle.mill_job.specs.Jobs.{HolderHasRoom, IsHeldOff, IsJob}
use Rattle.mill_job.specs.Slack.{graze_of}
use Rattle.mill_job.specs.Solids.{deeper_in, inner_of, stock_solid_of}
use Rattle.mill_job.specs.declared.fields.JobFields.{JobFields}
use Rattle.mill_job.proofs.Room.{room_of}
use Rattle.mill_margin.specs.Margins.{cone_offset_of, offset_of, shrunk}
use Rattle.mill_margin.proofs.Sizing.{radius_ok}

no_div : (n : ℕ) → 0 / n ≡ 0
no_div n = omega arith

ceil_zero : (n : ℕ) → ceil_div (pos 0) n ≡ pos 0
ceil_zero n = ap (λ (q : ℕ). neg_ℤ (pos q)) (no_div n)

offset_zero : (cutter : Cutter) → offset_of cutter (pos 0) ≡ pos 0
unfolding cone_offset_of
offset_zero (Flat r) = refl
offset_zero (Ball r) = refl
offset_zero (Cone r a b) = rw (zero-mul-ℤ (square a +ℤ square b)) (ceil_zero (nat_abs b))

none_off : (r : ℤ) → r -ℤ pos 0 ≡ r
none_off r = omega (arith, ints)

none_both : (r : ℤ) → (r -ℤ pos 0) +ℤ pos 0 ≡ r
none_both r = omega (arith, ints)

-- a cone of this radius at this height over the tip
abbrev cone_at : (r a b lift : ℤ) → Solid
cone_at r a b lift = record { cutter = Cone r a b; lift = lift }

same_cone : (a b x r lift : ℤ) → x ≡ r → lift ≡ pos 0 → cone_at x a b lift ≡ at_tip (Cone r a b)
same_cone a b x r lift e h = rw (e, h) refl

higher_by : (d : ℤ) → d ≡ pos 0 → (pos 0 +ℤ d) ≡ pos 0
higher_by d e = omega (arith, ints, e)

both_by : (d : ℤ) → d ≡ pos 0 → ((pos 0 +ℤ d) -ℤ d) ≡ pos 0
both_by d e = omega (arith, ints)

pub bare_inner : (cutter : Cutter) → shrunk (at_tip cutter) (pos 0) ≡ at_tip cutter
bare_inner (Flat r) = ap (λ (x : ℤ). at_tip (Flat x)) (none_off r)
bare_inner (Ball r) = ap (λ (x : ℤ). at_tip (Ball x)) (none_off r)
bare_inner (Cone r a b) = same_cone a b _ r _ (none_off r) (higher_by (offset_of (Cone r a b) (pos 0)) (offset_zero (Cone r a b)))

pub bare_deeper : (cutter : Cutter) → deeper_in cutter (pos 0) (pos 0) ≡ at_tip cutter
bare_deeper (Flat r) = ap (λ (x : ℤ). at_tip (Flat x)) (none_both r)
bare_deeper (Ball r) = ap (λ (x : ℤ). at_tip (Ball x)) (none_both r)
bare_deeper (Cone r a b) = same_cone a b _ r _ (none_both r) (both_by (offset_of (Cone r a b) (pos 0)) (offset_zero (Cone r a b)))

-- a holder over the tip is held off without a slack
pub no_slack_holder : (job : JobFields) → job.slack ≡ pos 0 → IfSome job.holder IsSolid → IfSome job.holder (λ holder. (pos 1) ≤ℤ holder.lift) → HolderHasRoom job
unfolding HolderHasRoom
no_slack_holder job none ok over = held job.holder job.slack none ok over
  where
    higher : (lift off : ℤ) → (pos 1) ≤ℤ lift → off ≡ pos 0 → off <ℤ lift
    higher lift off least e = omega (arith, ints, least, e)

    no_wider : (r slack most : ℤ) → r ≤ℤ most → slack ≡ pos 0 → (r +ℤ slack) ≤ℤ most
    no_wider r slack most within e = omega (arith, ints, within, e)

    held : (holder : Option Solid) (slack : ℤ) → slack ≡ pos 0 → IfSome holder IsSolid → IfSome holder (λ solid. (pos 1) ≤ℤ solid.lift) → IfSome holder (IsHeldOff slack)
    held None slack none ok over = tt
    held (Some solid) slack none ok over = record {
      over_tip = higher solid.lift (offset_of solid.cutter slack) over (ap (offset_of solid.cutter) none ∙ offset_zero solid.cutter);
      slack_around = no_wider (radius_of solid.cutter) slack MAX_RADIUS (radius_ok solid.cutter ok.cutter_ok).within none;
    }

-- without a graze there is no slack
pub no_slack : (job : JobFields) → IsJob job → graze_of job ≡ pos 0 → job.slack ≡ pos 0
no_slack job ok bare = zero job.slack (graze_of job) ok.slack_ok.low (room_of job job.cutter ok.room).graze_wide bare
  where
    zero : (s g : ℤ) → (pos 0) ≤ℤ s → (pos 2 *ℤ s) ≤ℤ g → g ≡ pos 0 → s ≡ pos 0
    zero s g least wide none = omega (arith, ints, least, wide, none)

-- and what is tested against the stock is what is cut for sure
pub stock_is_inner : (job : JobFields) → IsJob job → graze_of job ≡ pos 0 → stock_solid_of job ≡ inner_of job
stock_is_inner job ok bare = rw (bare, no_slack job ok bare) (bare_deeper job.cutter ∙ sym (bare_inner job.cutter))
