use Rattle.std.proofs.Common.{refl, rules}
use Rattle.mill_block.proofs.KeptLemmas.{arrives}
use Rattle.mill_block.proofs.progress.Progress.arrive.Goals as goal

pub returns-clause-ok : goal.returns-clause-ok
returns-clause-ok c = arrives c.args.self.now _ c.args.to _ _ c.requires.known c.requires.to c.requires.high (search rules) refl c.in_ok-add_still.ensures.ok
