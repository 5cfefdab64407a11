use Rattle.std.proofs.Common.{rules}
use Rattle.mill_block.proofs.HoleLemmas.{drilled_adds}
use Rattle.mill_block.proofs.progress.Progress.drill_in.Goals as goal

pub returns-clause-ok : goal.returns-clause-ok
returns-clause-ok c =
    drilled_adds c.args.self.now _ c.args.series c.args.hole _ _ c.requires.hole c.requires.place c.requires.from c.requires.unit (search rules) (search rules) c.in_ok-drill.ensures.made
