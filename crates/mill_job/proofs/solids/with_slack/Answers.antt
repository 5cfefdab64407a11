use Rattle.std.specs.Prelude.{ℤ, ◌-ℤ◌, ◌<ℤ◌, ◌≤ℤ◌, Option, IfSome}
use Rattle.std.proofs.Common.{subst, sym, arith, w32}
use Rattle.std.proofs.lemmas.Int.{ints, to_z-of_z}
use Rattle.mill_base.specs.Solids.{Solid}
use Rattle.mill_base.specs.declared.limits.TheConstants.{LOWEST_LIFT}
use Rattle.mill_job.specs.Jobs.{IsHeldOff}
use Rattle.mill_job.proofs.solids.with_slack.Goals as goal
use Rattle.mill_margin.specs.Margins.{offset_of}

over : (l d : ℤ) → d <ℤ l → LOWEST_LIFT ≤ℤ (l -ℤ d)
over l d h = omega (h, arith, ints)

-- A holder that is held off stays over the tip.
pub grown-requires-clause-lift_ok : goal.grown-requires-clause-lift_ok
grown-requires-clause-lift_ok c =
    let holder = c.in-Some.holder in
    let off : IsHeldOff c.args.slack holder = subst (λ (o : Option Solid). IfSome o (IsHeldOff c.args.slack)) c.in-Some.is c.requires.held_off in
    subst (λ (s : ℤ). LOWEST_LIFT ≤ℤ (holder.lift -ℤ offset_of holder.cutter s)) (sym (to_z-of_z w32 c.args.slack c.ranges.slack)) (over holder.lift (offset_of holder.cutter c.args.slack) off.over_tip)
