use Rattle.mill_obstacles.proofs.Kept.{no_fixtures_no_more}
use Rattle.mill_obstacles.proofs.laws.no_fixtures_no_more.Goals as goal

pub returns : goal.returns
returns c = no_fixtures_no_more
