use Rattle.mill_report_run.proofs.LineEnds.{bare, verdict_ends}
use Rattle.mill_report_run.proofs.line.verdict_words.Goals as goal

pub returns : goal.returns
returns c = bare _ c.in_ok-line.line.items c.drop_feed.new.line.items (verdict_ends c.args.job.now.fields c.args.moves.now c.args.verdict) c.in_ok-line.ensures c.drop_feed.ensures
