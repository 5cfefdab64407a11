use Rattle.std.proofs.Common.{arith}
use Rattle.std.proofs.lemmas.Int.{ints}
use Rattle.mill_job.specs.Columns.{column_count}
use Rattle.mill_dexel.proofs.Reaches.{along_same}
use Rattle.mill_dexel.proofs.reach.reach_by.Goals as goal

pub returns : goal.returns
returns c =
    along_same _ _ _ _ _ _ c.args.job.now.fields.area.x0 c.args.job.now.fields.pitch (column_count c.args.job.now.fields) c.args.distance c.args.from c.args.to c.reach_along.result.first c.reach_along.result.«end»
    (omega (arith, ints)) (omega (arith, ints)) c.columns.ensures.value (omega (arith, ints)) (omega (arith, ints)) (omega (arith, ints)) c.reach_along.ensures
