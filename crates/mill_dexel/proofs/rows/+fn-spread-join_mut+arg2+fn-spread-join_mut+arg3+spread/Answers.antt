use Rattle.std.proofs.Common.{rules}
use Rattle.mill_dexel.proofs.Chunks.{zip_joined}
use Rattle.mill_dexel.proofs.rows.+fn-spread-join_mut+arg2+fn-spread-join_mut+arg3+spread.Goals as goal

pub returns : goal.returns
returns g t c = search (rules, zip_joined)
