use Rattle.std.proofs.Common.{arith}
use Rattle.std.proofs.lemmas.Int.{ints}
use Rattle.mill_sweep.specs.Reach.{margin_of}
use Rattle.mill_dexel.proofs.Reaches.{beyond_same}
use Rattle.mill_dexel.proofs.reach.is_apart.Goals as goal

pub returns : goal.returns
returns c = λ yes.
    beyond_same _ _ _ _ (margin_of c.args.cutter) c.args.from c.args.to c.args.y
    (omega (arith, ints)) (omega (arith, ints)) (omega (arith, ints)) (omega (arith, ints)) (c.is_beyond.ensures.yes yes)
