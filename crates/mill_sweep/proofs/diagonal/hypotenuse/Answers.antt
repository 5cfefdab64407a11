use Rattle.mill_sweep.proofs.Roots.{longer_over}
use Rattle.mill_sweep.proofs.diagonal.hypotenuse.Goals as goal

pub root_between-requires-clause-over_ok : goal.root_between-requires-clause-over_ok
root_between-requires-clause-over_ok c = rw (c.square.ensures.value, c.square-2.ensures.value, c.from-3.ensures, c.div_ceil.ensures) (longer_over c.args.longer c.args.shorter c.requires.order)
