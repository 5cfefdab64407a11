use Rattle.std.proofs.Common.{ap, arith}
use Rattle.std.proofs.lemmas.Int.{ints}
use Rattle.mill_control.specs.Holes.{lowered, over_hole, sunk}
use Rattle.mill_control.proofs.Counting.{no_lowering, none_added}
use Rattle.mill_control.proofs.hole.lower.Goals as goal

pub returns-then-hole-top-clause-ok : goal.returns-then-hole-top-clause-ok
returns-then-hole-top-clause-ok c =
    none_added c.args.out.now.items (sunk (over_hole c.args.hole) (lowered c.args.top c.args.hole.from.z))
    (ap (λ ss. sunk (over_hole c.args.hole) ss) (no_lowering c.args.top c.args.hole.from.z (omega (c.if-hole-top.true, arith, ints))))
