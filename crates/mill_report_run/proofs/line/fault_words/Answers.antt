use Rattle.mill_report_run.proofs.LineEnds.{bare, fault_ends}
use Rattle.mill_report_run.proofs.line.fault_words.Goals as goal

pub returns : goal.returns
returns c = bare _ c.in_ok-line.line.items c.drop_feed.new.line.items (fault_ends c.args.fault.now) c.in_ok-line.ensures c.drop_feed.ensures
