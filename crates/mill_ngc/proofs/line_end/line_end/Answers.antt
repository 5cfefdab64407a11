use Rattle.std.proofs.Common.{arith}
use Rattle.std.proofs.lemmas.List.{take_rest}
use Rattle.mill_ngc.proofs.LineEnds.{line_to_end, line_to_feed}
use Rattle.mill_ngc.proofs.line_end.line_end.Goals as goal

pub returns-in-Some-clause-inner : goal.returns-in-Some-clause-inner
returns-in-Some-clause-inner c = λ _.
    line_to_feed c.args.text.now c.args.from c.in-Some.count _ (take_rest c.args.text.now c.args.from) c.in-Some.ensures.0.high
    (λ k lt. c.in-Some.ensures.0.before k (omega arith) lt) c.in-Some.ensures.1

pub returns-in-None-clause-last : goal.returns-in-None-clause-last
returns-in-None-clause-last c = λ _.
    line_to_end c.args.text.now c.args.from _ (take_rest c.args.text.now c.args.from) (λ k lt. c.in-None.ensures k (omega arith) lt)
