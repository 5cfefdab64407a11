use Rattle.std.specs.Prelude.{◌*◌, ◌≤◌, ◌^◌}
use Rattle.std.proofs.Common.{ap, arith}
use Rattle.mill_control.specs.Holes.{bite_of}
use Rattle.mill_control.proofs.Depths.{away-most}
use Rattle.mill_control.proofs.hole.bitten_away.Goals as goal

pub overflow_mul-result : goal.overflow_mul-result
overflow_mul-result c =
    let most : c.args.bite * bite_of c.args.hole.q ≤ 2 * 10 ^ 36 = away-most c.args.hole c.requires.hole c.args.bite c.requires.some c.requires.over in
    rw c.bite_size.ensures.value (omega arith)

pub returns-clause-bound : goal.returns-clause-bound
returns-clause-bound c = rw c.bite_size.ensures.value (away-most c.args.hole c.requires.hole c.args.bite c.requires.some c.requires.over)
