use Rattle.std.proofs.Common.{inl, arith, rules}
use Rattle.mill_block.proofs.quick_line.ends_at.Goals as goal

pub returns-then-place-line : goal.returns-then-place-line
returns-then-place-line c taken = inl (search (rules, arith))
