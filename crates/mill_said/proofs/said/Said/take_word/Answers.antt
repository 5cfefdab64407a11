use Rattle.mill_said.proofs.SaidLemmas.{row-x, row-y, row-z}
use Rattle.mill_said.proofs.said.Said.take_word.Goals as goal

pub returns-in-88-clause-ok : goal.returns-in-88-clause-ok
returns-in-88-clause-ok c = rw (row-x c.args.word.now c.in-88.is) (rw c.row.ensures at c.take_entry.ensures.ok)

pub returns-in-88-clause-fault : goal.returns-in-88-clause-fault
returns-in-88-clause-fault c = rw (row-x c.args.word.now c.in-88.is) (rw c.row.ensures at c.take_entry.ensures.fault)

pub returns-in-89-clause-ok : goal.returns-in-89-clause-ok
returns-in-89-clause-ok c = rw (row-y c.args.word.now c.in-89.is) (rw c.row-in-89.ensures at c.take_entry-in-89.ensures.ok)

pub returns-in-89-clause-fault : goal.returns-in-89-clause-fault
returns-in-89-clause-fault c = rw (row-y c.args.word.now c.in-89.is) (rw c.row-in-89.ensures at c.take_entry-in-89.ensures.fault)

pub returns-in-90-clause-ok : goal.returns-in-90-clause-ok
returns-in-90-clause-ok c = rw (row-z c.args.word.now c.in-90.is) (rw c.row-in-90.ensures at c.take_entry-in-90.ensures.ok)

pub returns-in-90-clause-fault : goal.returns-in-90-clause-fault
returns-in-90-clause-fault c = rw (row-z c.args.word.now c.in-90.is) (rw c.row-in-90.ensures at c.take_entry-in-90.ensures.fault)
