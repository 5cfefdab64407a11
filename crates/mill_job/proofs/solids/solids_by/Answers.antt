use Rattle.std.specs.Prelude.{◌≡◌, ℤ, pos, ◌+ℤ◌, ◌-ℤ◌, ◌<ℤ◌, ◌≤ℤ◌, IfSome}
use Rattle.std.proofs.Common.{◌∙◌, subst, subst₂, sym, arith, w32}
use Rattle.std.proofs.lemmas.Int.{ints}
use mir.Val.{to_z, of_z}
use Rattle.mill_base.specs.Sizes.{radius_of}
use Rattle.mill_base.specs.Solids.{Solid}
use Rattle.mill_base.specs.declared.limits.TheConstants.{LOWEST_LIFT, MAX_COORDINATE, MAX_RADIUS}
use Rattle.mill_job.specs.Jobs.{IsHeldOff}
use Rattle.mill_job.specs.Slack.{graze_of}
use Rattle.mill_job.proofs.Room.{holder_room_of, room_of}
use Rattle.mill_job.proofs.SolidFacts.{inner_ok, outer_ok}
use Rattle.mill_job.proofs.Stored.{stored_number}
use Rattle.mill_job.proofs.solids.solids_by.Goals as goal
use Rattle.mill_margin.specs.Margins.{offset_of}

pub grown-requires-clause-radius_ok : goal.grown-requires-clause-radius_ok
grown-requires-clause-radius_ok c =
    subst₂ (λ (tip : Solid) (s : ℤ). (radius_of tip.cutter +ℤ s) ≤ℤ MAX_RADIUS) (sym c.at_tip-tip.ensures) (sym (stored_number c.requires.slack_ok (record { le = tt }) (record { le = tt }))) (room_of c.args.job.now c.args.job.now.cutter c.requires.room).slack_around

pub grown-requires-clause-lift_ok : goal.grown-requires-clause-lift_ok
grown-requires-clause-lift_ok c =
    subst₂ (λ (tip : Solid) (s : ℤ). LOWEST_LIFT ≤ℤ (tip.lift -ℤ offset_of tip.cutter s)) (sym c.at_tip-tip.ensures) (sym (stored_number c.requires.slack_ok (record { le = tt }) (record { le = tt }))) (outer_ok c.args.job.now c.requires).lift_ok.least

pub shrunk-requires-clause-radius_ok : goal.shrunk-requires-clause-radius_ok
shrunk-requires-clause-radius_ok c =
    subst₂ (λ (tip : Solid) (s : ℤ). s <ℤ radius_of tip.cutter) (sym c.at_tip-tip.ensures) (sym (stored_number c.requires.slack_ok (record { le = tt }) (record { le = tt })))
    (room_of c.args.job.now c.args.job.now.cutter c.requires.room).slack_in

pub shrunk-requires-clause-lift_ok : goal.shrunk-requires-clause-lift_ok
shrunk-requires-clause-lift_ok c =
    subst₂ (λ (tip : Solid) (s : ℤ). (tip.lift +ℤ offset_of tip.cutter s) ≤ℤ pos MAX_COORDINATE) (sym c.at_tip-tip.ensures) (sym (stored_number c.requires.slack_ok (record { le = tt }) (record { le = tt })))
    (inner_ok c.args.job.now c.requires).lift_ok.within

pub deeper_in-requires-clause-inside : goal.deeper_in-requires-clause-inside
deeper_in-requires-clause-inside c =
    subst (λ (d : ℤ). d <ℤ radius_of c.args.job.now.cutter) (sym (stored_number c.requires.overcut_ok (record { le = tt }) (record { le = tt }))) (room_of c.args.job.now c.args.job.now.cutter c.requires.room).overcut_in

pub deeper_in-requires-2-clause-inside : goal.deeper_in-requires-2-clause-inside
deeper_in-requires-2-clause-inside c =
    let kept : to_z w32 (of_z w32 c.graze.result) ≡ graze_of c.args.job.now = omega (arith, ints, c.graze.ensures.in_range) ∙ c.graze.ensures.value in
    subst (λ (d : ℤ). d <ℤ radius_of c.args.job.now.cutter) (sym kept) (room_of c.args.job.now c.args.job.now.cutter c.requires.room).graze_in

pub deeper_in-requires-2-clause-around : goal.deeper_in-requires-2-clause-around
deeper_in-requires-2-clause-around c =
    subst (λ (s : ℤ). (radius_of c.args.job.now.cutter +ℤ s) ≤ℤ MAX_RADIUS) (sym (stored_number c.requires.slack_ok (record { le = tt }) (record { le = tt })))
    (room_of c.args.job.now c.args.job.now.cutter c.requires.room).slack_around

pub with_slack-requires-clause-held_off : goal.with_slack-requires-clause-held_off
with_slack-requires-clause-held_off c =
    subst (λ (s : ℤ). IfSome c.args.job.now.holder (IsHeldOff s)) (sym (stored_number c.requires.slack_ok (record { le = tt }) (record { le = tt }))) (holder_room_of c.args.job.now c.requires.holder_room)
