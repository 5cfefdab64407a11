use Rattle.mill_report.proofs.Listings.{first_is_verdict}
use Rattle.mill_report.proofs.laws.first_is_verdict.Goals as goal

pub returns : goal.returns
returns c = first_is_verdict
