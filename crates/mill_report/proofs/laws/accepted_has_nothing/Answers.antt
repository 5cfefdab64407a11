use Rattle.mill_report.proofs.Listings.{accepted_has_nothing}
use Rattle.mill_report.proofs.laws.accepted_has_nothing.Goals as goal

pub returns : goal.returns
returns c = accepted_has_nothing
