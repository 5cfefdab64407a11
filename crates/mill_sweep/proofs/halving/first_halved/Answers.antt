use Rattle.mill_sweep.proofs.Firsts.{whole_decides}
use Rattle.mill_sweep.proofs.halving.first_halved.Goals as goal

pub returns : goal.returns
returns c = whole_decides c.args.prepared.now.cutter c.args.prepared.now.step c.args.tri.now c.args.prepared.now.depth c.requires.prepared_ok.depth_is c.first_under.result c.first_under.ensures
