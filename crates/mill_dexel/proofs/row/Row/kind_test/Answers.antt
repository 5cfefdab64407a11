use Rattle.mill_base.specs.declared.motion.Kind.TheVariants.{Rapid, Feed, Dogleg}
use Rattle.mill_dexel.proofs.Stops.{at_top, rapid_found, feed_found}
use Rattle.mill_dexel.proofs.row.Row.kind_test.Goals as goal

pub returns-in-Rapid : goal.returns-in-Rapid
returns-in-Rapid c = rapid_found c.args.job.now.fields c.args.self.now c.args.step.now Rapid c.in-Rapid.is c.rapid_turn.result tt c.rapid_turn.ensures.first c.rapid_turn.ensures.blocked

pub returns-in-Feed : goal.returns-in-Feed
returns-in-Feed c = feed_found c.args.job.now.fields c.args.self.now c.args.step.now Feed c.in-Feed.is c.cut_test.result c.cut_test.ensures.none c.cut_test.ensures.tested c.cut_test.ensures.first c.cut_test.ensures.blocked

pub returns-in-Dogleg : goal.returns-in-Dogleg
returns-in-Dogleg c =
    rapid_found c.args.job.now.fields c.args.self.now c.args.step.now Dogleg c.in-Dogleg.is c.rapid_turn-in-Dogleg.result tt
    (at_top c.args.job.now.fields c.args.self.now c.args.step.now c.rapid_turn-in-Dogleg.result c.rapid_turn-in-Dogleg.ensures.first) c.rapid_turn-in-Dogleg.ensures.blocked
