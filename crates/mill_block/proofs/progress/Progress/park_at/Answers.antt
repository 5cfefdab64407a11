use Rattle.std.proofs.Common.{rules}
use Rattle.mill_block.proofs.KeptLemmas.{parks_on}
use Rattle.mill_block.proofs.progress.Progress.park_at.Goals as goal

pub returns-clause-keeps : goal.returns-clause-keeps
returns-clause-keeps c = parks_on c.args.self.now _ (search rules)
