use Rattle.std.proofs.Common.{arith}
use Rattle.mill_sweep.proofs.Depths.{halvings_are}
use Rattle.mill_sweep.proofs.move_depth.halvings.Goals as goal

pub returns-clause-reaches : goal.returns-clause-reaches
returns-clause-reaches c = let over = c.if-length-le1.false in (halvings_are c.args.length (omega arith) c.ranges.length.fits).0

pub returns-clause-least : goal.returns-clause-least
returns-clause-least c = λ _. let over = c.if-length-le1.false in (halvings_are c.args.length (omega arith) c.ranges.length.fits).1
