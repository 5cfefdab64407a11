use Rattle.std.proofs.Common.{arith, rules}
use Rattle.mill_ngc.proofs.Feeds.{before-feed}
use Rattle.mill_ngc.proofs.lines.line_length.Goals as goal

pub returns-then-run-lt-LANES-clause-value : goal.returns-then-run-lt-LANES-clause-value
returns-then-run-lt-LANES-clause-value c =
    before-feed c.args.text.now _ (omega (arith, c.run_at-run.ensures.within)) (search rules) (λ lt. search rules)
