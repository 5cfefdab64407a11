use Rattle.std.proofs.Common.{◌≡◌}
use Rattle.std.specs.List.{flat_map}
use Rattle.mill_verify.specs.inner.Pieces.{row_in}
use Rattle.mill_verify.proofs.stock.rows_of.Given as goal

abbrev pub invariant-loop-held : goal.invariant-loop-held
invariant-loop-held l = l.rows.items ≡ flat_map row_in l.yielded
