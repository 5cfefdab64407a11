use Rattle.std.proofs.Common.{rules}
use Rattle.mill_block.proofs.NamingLemmas.{drills_known}
use Rattle.mill_block.proofs.progress.Progress.act_in_mode.Goals as goal

pub drill_hole-requires-clause-place : goal.drill_hole-requires-clause-place
drill_hole-requires-clause-place c = drills_known c.args.self.now c.args.said.now (search rules) c.requires.allowed

pub go_round-requires-clause-place : goal.go_round-requires-clause-place
go_round-requires-clause-place c = drills_known c.args.self.now c.args.said.now (search rules) c.requires.allowed
