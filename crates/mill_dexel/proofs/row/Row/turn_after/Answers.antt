use Rattle.std.proofs.Common.{subst}
use Rattle.mill_base.specs.declared.motion.Move.{Move}
use Rattle.mill_dexel.specs.Turns.{ClearsRow}
use Rattle.mill_dexel.proofs.RunLaws.{move_read}
use Rattle.mill_dexel.proofs.row.Row.turn_after.Goals as goal

pub returns-clause-clears : goal.returns-clause-clears
returns-clause-clears c = λ passed. subst (λ (m : Move). ClearsRow c.args.job.now.fields c.args.self.now m) (move_read c.args.moves.now c.args.t _ c.requires.next.there) c.in_default.ensures
