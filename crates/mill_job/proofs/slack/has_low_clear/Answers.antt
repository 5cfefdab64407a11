use Rattle.std.proofs.Common.{◌≡◌, refl, arith, rules, w32}
use Rattle.std.proofs.lemmas.Int.{ints, to_z-of_z}
use Rattle.std.specs.Prelude.{pos, ◌+ℤ◌, ◌*ℤ◌, ◌≤ℤ◌, int_lt}
use mir.Val.{to_z, of_z}
use Rattle.mill_job.specs.Jobs.{IsFrom}
use Rattle.mill_job.proofs.Room.{at_most}
use Rattle.mill_job.proofs.Stored.{small_offset, stored_number, stored_over}
use Rattle.mill_job.proofs.slack.has_low_clear.Goals as goal
use Rattle.mill_margin.specs.Margins.{IsMargin, offset_of}

-- The sum doesn't leave its type.
module _ (c : goal.After-offset) where
  slack : to_z w32 (of_z w32 c.args.job.now.slack) ≡ c.args.job.now.slack
  slack = stored_number c.requires.slack_ok (record { le = tt }) (record { le = tt })

  margin : IsMargin c.args.job.now.slack
  margin = record { least = c.requires.slack_ok.low; most = omega (arith, ints, c.requires.slack_ok.high) }

  small : IsFrom (pos 0) (pos 8500) c.offset.result
  small =
      let least : c.args.job.now.slack ≤ℤ c.offset.result = rw slack at c.offset.ensures.least in
      let most : c.offset.result ≤ℤ (pos 17 *ℤ c.args.job.now.slack) = rw slack at c.offset.ensures.most in
      small_offset margin least most

  value : int_lt (to_z w32 (of_z w32 c.args.job.now.clear)) (to_z w32 (of_z w32 (to_z w32 (of_z w32 c.args.job.now.top) +ℤ to_z w32 (of_z w32 c.offset.result)))) ≡ int_lt c.args.job.now.clear (c.args.job.now.top +ℤ offset_of c.args.cutter.now c.args.job.now.slack)
  value =
      let clear = to_z-of_z w32 c.args.job.now.clear (search rules) in
      let is : c.offset.result ≡ offset_of c.args.cutter.now c.args.job.now.slack = rw slack at c.offset.ensures.value in
      rw (clear, stored_over c.args.job.now.unit c.requires.top_ok small, is) refl

pub returns-clause-value : goal.returns-clause-value
returns-clause-value c = value c

pub returns-clause-no : goal.returns-clause-no
returns-clause-no c = λ no. at_most _ _ (rw (value c) at no)
