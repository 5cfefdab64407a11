use Rattle.std.proofs.Common.{◌∙◌, sym}
use Rattle.toml.specs.View.{items_view}
use Rattle.mill_job.specs.Fixtures.{rows}
use Rattle.mill_job.proofs.Boxes.{length-rows, too_many}
use Rattle.mill_job.proofs.keep_out.fixtures_in.Goals as goal

pub returns-then-values-gt-MAX_FIXTURES-clause-value : goal.returns-then-values-gt-MAX_FIXTURES-clause-value
returns-then-values-gt-MAX_FIXTURES-clause-value c =
    too_many c.args.unit (rows (items_view c.args.values.now)) (λ zss e. rw (length-rows c.args.values.now zss e) c.if-values-gt-MAX_FIXTURES.true) (sym c.are_rows.ensures ∙ c.if-not-are_rows.false)
