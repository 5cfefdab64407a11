use Rattle.std.proofs.Common.{arith}
use Rattle.std.proofs.lemmas.Int.{ints}
use Rattle.mill_sweep.proofs.gap.Gap.lies_over_end.Goals as goal

pub returns-clause-c : goal.returns-clause-c
returns-clause-c c = λ t. let clear = c.is_clear-3.ensures.yes t in omega (arith, ints)
