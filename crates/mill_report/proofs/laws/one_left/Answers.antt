use Rattle.mill_report.proofs.Listings.{one_left}
use Rattle.mill_report.proofs.laws.one_left.Goals as goal

pub returns : goal.returns
returns c = one_left
