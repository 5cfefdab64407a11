use Rattle.mill_base.specs.declared.motion.Kind.TheVariants.{Rapid, Feed, Dogleg}
use Rattle.mill_sweep.proofs.ByKind.{kind_decides}
use Rattle.mill_sweep.proofs.halving.first_near.Goals as goal

pub returns-in-Rapid : goal.returns-in-Rapid
returns-in-Rapid c = kind_decides Rapid c.args.prepared.now.cutter c.args.prepared.now.step c.args.tri.now c.first_halved.result c.in-Rapid.is c.first_halved.ensures

pub returns-in-Feed : goal.returns-in-Feed
returns-in-Feed c = kind_decides Feed c.args.prepared.now.cutter c.args.prepared.now.step c.args.tri.now c.first_halved-in-Feed.result c.in-Feed.is c.first_halved-in-Feed.ensures

pub returns-in-Dogleg : goal.returns-in-Dogleg
returns-in-Dogleg c = kind_decides Dogleg c.args.prepared.now.cutter c.args.prepared.now.step c.args.tri.now c.first_by_box.result c.in-Dogleg.is c.first_by_box.ensures
