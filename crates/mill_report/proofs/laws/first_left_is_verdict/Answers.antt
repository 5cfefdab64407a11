use Rattle.mill_report.proofs.Listings.{first_left_is_verdict}
use Rattle.mill_report.proofs.laws.first_left_is_verdict.Goals as goal

pub returns : goal.returns
returns c = first_left_is_verdict
