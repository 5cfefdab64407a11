use Rattle.mill_report.proofs.Lefts.{cut_stored}
use Rattle.mill_report.proofs.left.is_cut.Goals as goal

pub returns : goal.returns
returns c = cut_stored c.args.job.now.is_job c.requires.x_ok c.requires.y_ok c.requires.top_ok c.covered_near.ensures
