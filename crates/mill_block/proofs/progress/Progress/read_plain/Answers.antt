use Rattle.std.proofs.Common.{rules}
use Rattle.mill_block.proofs.PlainLemmas.{plain-line}
use Rattle.mill_block.proofs.progress.Progress.read_plain.Goals as goal

pub returns-clause-made : goal.returns-clause-made
returns-clause-made c =
    plain-line c.args.self.now c.make_plain.new.self c.args.line.now c.in_ok-plain.plain c.make_plain.result (search rules) (search rules) c.in_ok-plain.ensures c.make_plain.ensures.made
