use Rattle.mill_answer.proofs.verdict.line_of_blocked.Goals as goal

pub returns : goal.returns
returns c = rw (c.from.ensures, c.from-2.ensures, c.from-3.ensures) at c.line_of.ensures
