use Rattle.std.proofs.Common.{rules}
use Rattle.mill_block.proofs.NamingLemmas.{named_rises}
use Rattle.mill_block.proofs.progress.Progress.go_straight.Goals as goal

pub go_to-requires-clause-high : goal.go_to-requires-clause-high
go_to-requires-clause-high c = named_rises c.args.control c.args.self.now c.args.said.now c.in_ok-to.to (search rules) (search rules)
