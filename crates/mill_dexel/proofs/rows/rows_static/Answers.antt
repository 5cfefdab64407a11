use Rattle.std.proofs.Common.{arith}
use Rattle.std.proofs.lemmas.Grind.{common_steps}
use Rattle.mill_dexel.proofs.Chunks.{rows_stay}
use Rattle.mill_dexel.proofs.rows.rows_static.Goals as goal

pub returns-clause-rows_ok : goal.returns-clause-rows_ok
returns-clause-rows_ok g c = rows_stay c.args.job.now.fields c.args.moves.now c.args.rows.items _ c.requires.rows_ok (grind (arith, common_steps))
