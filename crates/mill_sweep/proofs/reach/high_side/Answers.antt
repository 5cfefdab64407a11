use Rattle.std.proofs.Common.{rules}
use Rattle.mill_sweep.proofs.Sides.{high_stored}
use Rattle.mill_sweep.proofs.reach.high_side.Goals as goal

pub returns-clause-value : goal.returns-clause-value
returns-clause-value c =
    high_stored c.min.result c.max.result c.args.from c.args.to c.args.margin (search rules) (search rules) c.ranges.from c.ranges.to c.ranges.margin c.requires.from_ok c.requires.to_ok c.requires.margin_ok
    c.max.ensures.value c.min.ensures.value
