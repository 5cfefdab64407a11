use Rattle.std.proofs.Common.{◌^◌}
use Rattle.std.proofs.lemmas.Nat.{pow_pos}
use Rattle.mill_sweep.proofs.Computed.{up_is}
use Rattle.mill_sweep.proofs.leaf_span.parts_up.Goals as goal

pub returns : goal.returns
returns c = rw c.power_of_two.ensures (up_is c.args.length (2 ^ c.args.d) (pow_pos c.args.d))
