use Rattle.mill_report_run.proofs.LineEnds.{dropped}
use Rattle.mill_report_run.proofs.line.drop_feed.Goals as goal

pub returns : goal.returns
returns c = λ start is. dropped c.args.line.now.items c.pop.new.self.items start c.args.line.now.len c.args.line.now.ok.0 c.pop.ensures.rest is
