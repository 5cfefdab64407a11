use Rattle.std.proofs.Common.{rules}
use Rattle.mill_geom.proofs.Extents.{around_in_range}
use Rattle.mill_geom.proofs.Stored.{least_stored, most_stored}
use Rattle.mill_geom.proofs.extent.around.Goals as goal

pub returns-clause-in_range : goal.returns-clause-in_range
returns-clause-in_range c =
    let a = c.args.a in
    let b = c.args.b in
    let first = least_stored c.min.result a.first b.first (search rules) (search rules) (search rules) c.min.ensures.value in
    let last = most_stored c.max.result a.last b.last (search rules) (search rules) (search rules) c.max.ensures.value in
    rw (first, last) (around_in_range a b c.requires.a_ok c.requires.b_ok)
