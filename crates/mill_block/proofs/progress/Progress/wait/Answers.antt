use Rattle.mill_block.proofs.KeptLemmas.{waits_on}
use Rattle.mill_block.proofs.progress.Progress.wait.Goals as goal

pub returns-clause-keeps : goal.returns-clause-keeps
returns-clause-keeps c = waits_on c.args.self.now c.args.to c.requires.known c.requires.to c.requires.high
