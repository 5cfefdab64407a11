use Rattle.mill_document.proofs.Plain.{plain_column}
use Rattle.mill_document.proofs.failure.column_value.Goals as goal

pub returns-clause-plain : goal.returns-clause-plain
returns-clause-plain c = rw c.in_ok-one_column.ensures (plain_column c.args.unit c.args.column.now)
