use Rattle.mill_answer.proofs.verdict.line_of_obstacle.Goals as goal

pub returns : goal.returns
returns c = simp (c.from.ensures, c.from-2.ensures) at c.line_of.ensures
