use Rattle.mill_run.proofs.plan.line_of_held.Goals as goal

pub returns : goal.returns
returns c = rw (← c.from.ensures, ← c.from-2.ensures) c.line_of.ensures
