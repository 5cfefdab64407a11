use Rattle.std.proofs.Common.{length, arith, rules}
use Rattle.mill_ngc.proofs.Feeds.{before-feed}
use Rattle.mill_ngc.proofs.lines.line_length_by_byte.Goals as goal

pub returns-then-text-place-eq10-clause-value : goal.returns-then-text-place-eq10-clause-value
returns-then-text-place-eq10-clause-value c =
    before-feed c.args.text.now c.loop-place.place (omega arith) c.loop-place.invariant (λ lt. search rules)

pub returns-clause-value : goal.returns-clause-value
returns-clause-value c =
    before-feed c.args.text.now (length c.args.text.now) (omega arith) (λ k lt. c.loop-place.invariant k (omega arith)) (λ lt. absurd (omega arith))
