use Rattle.mill_block.specs.Lines.{is_percent}
use Rattle.mill_block.proofs.PercentLemmas.{percent-next, percent-stops, percent-end}
use Rattle.mill_block.proofs.line_reader.is_percent.Goals as goal

pub returns-in-None : goal.returns-in-None
returns-in-None c = percent-stops c.args.line.now c.loop-byte.byte-index c.loop-byte.seen (is_percent c.args.line.now) c.loop-byte-test.true c.in-None.ensures c.loop-byte.invariant

pub loop-byte-preserved : goal.loop-byte-preserved
loop-byte-preserved c = percent-next c.args.line.now c.loop-byte.byte-index c.loop-byte.seen c.in-Some.next (is_percent c.args.line.now) c.loop-byte-test.true c.in-Some.ensures c.loop-byte.invariant

pub returns : goal.returns
returns c = percent-end c.args.line.now c.loop-byte.byte-index c.loop-byte.seen (is_percent c.args.line.now) c.loop-byte-test.false c.loop-byte.invariant
