use Rattle.mill_sweep.proofs.Placing.{from_leaf}
use Rattle.mill_sweep.proofs.beside.leaf_distance.Goals as goal

pub returns : goal.returns
returns c = from_leaf c.args.cutter c.radius.result c.args.farther c.requires.cutter_ok c.radius.ensures c.requires.farther_ok
