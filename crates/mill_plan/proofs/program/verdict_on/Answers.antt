use Rattle.mill_base.proofs.Ranges.{moves_of_unit}
use Rattle.mill_job.specs.Columns.{home}
use Rattle.mill_obstacles.specs.Faces.{obstacles_of}
use Rattle.mill_plan.proofs.Good.{good, in_range}
use Rattle.mill_plan.proofs.program.verdict_on.Goals as goal

pub verify-requires-clause-moves_ok : goal.verify-requires-clause-moves_ok
verify-requires-clause-moves_ok g c = moves_of_unit c.args.job.now.fields.unit _ (in_range c.args.job.now.fields (obstacles_of c.args.job.now.fields c.args.part.now) (home c.args.job.now.fields) (home c.args.job.now.fields) c.args.moves.now c.requires.safe)

pub verdict_on_stock-requires-clause-moves_ok : goal.verdict_on_stock-requires-clause-moves_ok
verdict_on_stock-requires-clause-moves_ok g c = moves_of_unit c.args.job.now.fields.unit _ (in_range c.args.job.now.fields (obstacles_of c.args.job.now.fields c.args.part.now) (home c.args.job.now.fields) (home c.args.job.now.fields) c.args.moves.now c.requires.safe)

pub verdict_on_stock-requires-clause-good : goal.verdict_on_stock-requires-clause-good
verdict_on_stock-requires-clause-good g c =
    good c.args.job.now.fields c.args.part.now (home c.args.job.now.fields) (home c.args.job.now.fields) c.args.moves.now c.args.job.now.is_job c.requires.safe
    (c.is_decided_by_stock.ensures.bare c.if-is_decided_by_stock.true)

pub verdict_on_stock-requires-clause-rows_ok : goal.verdict_on_stock-requires-clause-rows_ok
verdict_on_stock-requires-clause-rows_ok g c = c.requires.stock (c.is_decided_by_stock.ensures.limited c.if-is_decided_by_stock.true)
