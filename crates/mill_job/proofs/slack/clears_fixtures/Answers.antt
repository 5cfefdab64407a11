use Rattle.std.proofs.Common.{◌≡◌, ◌∙◌, sym, arith, w32}
use Rattle.std.proofs.lemmas.Int.{ints}
use Rattle.std.specs.Prelude.{pos, ◌-ℤ◌, ◌*ℤ◌, ◌≤ℤ◌}
use mir.Val.{to_z, of_z}
use Rattle.mill_job.specs.Documents.{are_under}
use Rattle.mill_job.specs.Jobs.{IsFrom}
use Rattle.mill_job.proofs.Stored.{small_offset, stored_number, stored_under}
use Rattle.mill_job.proofs.Under.{all_low, all_under}
use Rattle.mill_job.proofs.slack.clears_fixtures.Goals as goal
use Rattle.mill_margin.specs.Margins.{IsMargin, offset_of}

-- The difference doesn't leave its type.
module _ (c : goal.After-are_low) where
  slack : to_z w32 (of_z w32 c.args.job.now.slack) ≡ c.args.job.now.slack
  slack = stored_number c.requires.slack_ok (record { le = tt }) (record { le = tt })

  margin : IsMargin c.args.job.now.slack
  margin = record { least = c.requires.slack_ok.low; most = omega (arith, ints, c.requires.slack_ok.high) }

  small : IsFrom (pos 0) (pos 8500) c.offset.result
  small =
      let least : c.args.job.now.slack ≤ℤ c.offset.result = rw slack at c.offset.ensures.least in
      let most : c.offset.result ≤ℤ (pos 17 *ℤ c.args.job.now.slack) = rw slack at c.offset.ensures.most in
      small_offset margin least most

  most : to_z w32 (of_z w32 (to_z w32 (of_z w32 c.args.job.now.clear) -ℤ to_z w32 (of_z w32 c.offset.result))) ≡ c.args.job.now.clear -ℤ offset_of c.args.cutter.now c.args.job.now.slack
  most =
      let is : c.offset.result ≡ offset_of c.args.cutter.now c.args.job.now.slack = rw slack at c.offset.ensures.value in
      rw (← is) (stored_under c.args.job.now.unit c.requires.clear_ok small)

  value : c.are_low.result ≡ are_under c.args.job.now c.args.cutter.now
  value =
      rw (c.are_low.ensures, c.as_slice.ensures.list)
      (all_low _ c.args.job.now.clear (offset_of c.args.cutter.now c.args.job.now.slack) c.args.job.now.keep_out most)

pub returns-clause-value : goal.returns-clause-value
returns-clause-value c = value c

pub returns-clause-yes : goal.returns-clause-yes
returns-clause-yes c = λ yes. all_under c.args.job.now.clear (offset_of c.args.cutter.now c.args.job.now.slack) c.args.job.now.keep_out (sym (value c) ∙ yes)
