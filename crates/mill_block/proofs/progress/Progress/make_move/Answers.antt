use Rattle.std.proofs.Common.{rules}
use Rattle.mill_block.proofs.RiseLemmas.{rises}
use Rattle.mill_block.proofs.progress.Progress.make_move.Goals as goal

pub reach-requires-clause-high : goal.reach-requires-clause-high
reach-requires-clause-high c = rises c.args.self.now c.args.said.now c.in_ok-to-in-On.to (search rules) (search rules)
