use Rattle.mill_answer.proofs.verdict.line_of_reason.Goals as goal

pub returns-in-Gouge : goal.returns-in-Gouge
returns-in-Gouge c = rw c.in-Gouge.is c.line_of_obstacle.ensures

pub returns-in-HolderFixture : goal.returns-in-HolderFixture
returns-in-HolderFixture c = rw c.in-HolderFixture.is c.line_of_obstacle-in-HolderFixture.ensures
