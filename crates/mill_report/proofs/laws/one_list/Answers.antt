use Rattle.mill_report.proofs.Listings.{one_list}
use Rattle.mill_report.proofs.laws.one_list.Goals as goal

pub returns : goal.returns
returns c = one_list
