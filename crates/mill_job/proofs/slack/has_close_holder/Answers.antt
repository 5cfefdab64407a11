use Rattle.std.specs.Prelude.{◌≡◌, false, ℤ, ◌+ℤ◌, int_le, Option, IfSome}
use Rattle.std.proofs.Common.{◌∙◌, ap, subst, sym, w32}
use mir.Val.{to_z, of_z}
use Rattle.mill_base.specs.Sizes.{HasRadius, IsCutter, radius_of}
use Rattle.mill_base.specs.Solids.{Solid}
use Rattle.mill_base.specs.declared.limits.TheConstants.{MAX_RADIUS}
use Rattle.mill_job.specs.Jobs.{HolderHasRoom, IsHeldOff}
use Rattle.mill_job.proofs.Room.{at_most, under}
use Rattle.mill_job.proofs.Stored.{stored_around, stored_number}
use Rattle.mill_job.proofs.slack.has_close_holder.Goals as goal
use Rattle.mill_margin.specs.Margins.{offset_of}
use Rattle.mill_margin.proofs.Sizing.{radius_ok}

-- Where neither test holds, the holder is held off.
pub returns-else-reaches_tip-clause-no : goal.returns-else-reaches_tip-clause-no
unfolding HolderHasRoom
returns-else-reaches_tip-clause-no c = λ wide.
    let job = c.args.job.now in
    let holder = c.in-Some.holder in
    let slack : to_z w32 (of_z w32 job.slack) ≡ job.slack = stored_number c.requires (record { le = tt }) (record { le = tt }) in
    let test : int_le holder.lift (offset_of holder.cutter job.slack) ≡ false =
    subst (λ (s : ℤ). int_le holder.lift (offset_of holder.cutter s) ≡ false) slack (sym c.reaches_tip.ensures ∙ c.if-reaches_tip.false) in
    let radius : c.radius.result ≡ radius_of holder.cutter = c.radius.ensures ∙ ap radius_of c.cutter.ensures.value in
    let size : HasRadius (radius_of holder.cutter) MAX_RADIUS = radius_ok holder.cutter (subst IsCutter c.cutter.ensures.value c.cutter.ensures.in_range) in
    let sum : to_z w32 (of_z w32 (to_z w32 (of_z w32 c.radius.result) +ℤ to_z w32 (of_z w32 job.slack))) ≡ radius_of holder.cutter +ℤ job.slack =
    ap (λ (r : ℤ). to_z w32 (of_z w32 (to_z w32 (of_z w32 r) +ℤ to_z w32 (of_z w32 job.slack)))) radius ∙ stored_around size c.requires in
    subst (λ (o : Option Solid). IfSome o (IsHeldOff job.slack)) (sym c.in-Some.is)
    (record { over_tip = under holder.lift (offset_of holder.cutter job.slack) test; slack_around = at_most MAX_RADIUS (radius_of holder.cutter +ℤ job.slack) (rw sum at wide) })
