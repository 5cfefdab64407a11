use Rattle.std.proofs.Common.{◌≡◌, false, refl, arith, w32}
use Rattle.std.proofs.lemmas.Int.{ints, to_z-of_z}
use Rattle.std.specs.Prelude.{pos, ◌*ℤ◌, ◌≤ℤ◌, int_lt}
use Rattle.mill_job.specs.Jobs.{IsFrom}
use Rattle.mill_job.proofs.Stored.{small_offset, stored_double, stored_number}
use Rattle.mill_job.proofs.slack.is_too_shallow.Goals as goal
use Rattle.mill_margin.specs.Margins.{offset_of}

-- Neither the offsets nor their doubles leave their type.
pub returns-else-graze-slack : goal.returns-else-graze-slack
returns-else-graze-slack c =
    let cutter = c.args.cutter in
    let slack = to_z-of_z w32 c.args.slack c.ranges.slack in
    let graze = to_z-of_z w32 c.args.graze c.ranges.graze in
    let slack_from : IsFrom (pos 0) (pos 8500) c.args.slack = record { low = c.requires.slack_ok.least; high = omega (arith, ints, c.requires.slack_ok.most) } in
    let wide : int_lt c.args.graze (pos 2 *ℤ c.args.slack) ≡ false = rw (graze, stored_double slack_from) at c.if-graze-slack.false in
    let over : c.offset.result ≡ offset_of cutter c.args.graze = rw graze at c.offset.ensures.value in
    let over_least : c.args.graze ≤ℤ c.offset.result = rw graze at c.offset.ensures.least in
    let over_most : c.offset.result ≤ℤ (pos 17 *ℤ c.args.graze) = rw graze at c.offset.ensures.most in
    let under : c.offset-else-graze-slack.result ≡ offset_of cutter c.args.slack = rw slack at c.offset-else-graze-slack.ensures.value in
    let under_least : c.args.slack ≤ℤ c.offset-else-graze-slack.result = rw slack at c.offset-else-graze-slack.ensures.least in
    let under_most : c.offset-else-graze-slack.result ≤ℤ (pos 17 *ℤ c.args.slack) = rw slack at c.offset-else-graze-slack.ensures.most in
    rw (
      stored_number (small_offset c.requires.graze_ok over_least over_most) (record { le = tt }) (record { le = tt }),
      stored_double (small_offset c.requires.slack_ok under_least under_most),
      over,
      under,
      wide,
    ) refl
