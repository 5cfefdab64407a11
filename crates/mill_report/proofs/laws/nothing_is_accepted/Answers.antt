use Rattle.mill_report.proofs.Listings.{nothing_is_accepted}
use Rattle.mill_report.proofs.laws.nothing_is_accepted.Goals as goal

pub returns : goal.returns
returns c = nothing_is_accepted
