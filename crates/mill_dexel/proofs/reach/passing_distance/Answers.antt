use Rattle.mill_dexel.proofs.Reaches.{passes_beyond, beyond_fits}
use Rattle.mill_dexel.proofs.reach.passing_distance.Goals as goal

pub overflow_add-result : goal.overflow_add-result
overflow_add-result c = beyond_fits c.args.cutter c.radius.result c.requires c.radius.ensures

pub returns : goal.returns
returns c = passes_beyond c.args.cutter c.radius.result c.requires c.radius.ensures
