use Rattle.std.proofs.Common.{◌≡◌, refl, arith, w32}
use Rattle.std.proofs.lemmas.Int.{ints, to_z-of_z}
use Rattle.std.specs.Prelude.{pos, ◌*ℤ◌, ◌≤ℤ◌}
use mir.Val.{to_z, of_z}
use Rattle.mill_job.proofs.Stored.{small_offset, stored_lift, stored_number}
use Rattle.mill_job.proofs.slack.reaches_tip.Goals as goal
use Rattle.mill_margin.specs.Margins.{IsMargin, offset_of}

margin : (c : goal.After-offset) → IsMargin c.args.slack
margin c = record { least = c.requires.low; most = omega (arith, ints, c.requires.high) }

pub offset-requires-clause-margin_ok : goal.offset-requires-clause-margin_ok
offset-requires-clause-margin_ok c =
    let slack = to_z-of_z w32 c.args.slack c.ranges.slack in
    rw slack (record { least = c.requires.low; most = omega (arith, ints, c.requires.high) })

-- Neither the lift nor the offset leaves its type.
pub returns : goal.returns
returns c =
    let slack : to_z w32 (of_z w32 c.args.slack) ≡ c.args.slack = to_z-of_z w32 c.args.slack c.ranges.slack in
    let is : c.offset.result ≡ offset_of c.args.holder.cutter c.args.slack = rw (slack, c.cutter.ensures.value) at c.offset.ensures.value in
    let least : c.args.slack ≤ℤ c.offset.result = rw slack at c.offset.ensures.least in
    let most : c.offset.result ≤ℤ (pos 17 *ℤ c.args.slack) = rw slack at c.offset.ensures.most in
    rw (stored_lift c.lift.ensures.in_range, stored_number (small_offset (margin c) least most) (record { le = tt }) (record { le = tt }), is, c.lift.ensures.value) refl
