use Rattle.std.proofs.Common.{arith}
use Rattle.mill_base.proofs.Divisions.{half_of_small}
use Rattle.mill_base.proofs.rounding.round_half_up.Goals as goal

pub returns-then-bits-gt63 : goal.returns-then-bits-gt63
returns-then-bits-gt63 c = half_of_small c.args.numerator c.args.bits c.requires.within (let more = c.if-bits-gt63.true in omega arith)
