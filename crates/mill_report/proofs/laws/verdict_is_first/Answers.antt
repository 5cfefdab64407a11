use Rattle.mill_report.proofs.Listings.{verdict_is_first}
use Rattle.mill_report.proofs.laws.verdict_is_first.Goals as goal

pub returns : goal.returns
returns c = verdict_is_first c.one_verdict.ensures
