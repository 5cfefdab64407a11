use Rattle.std.proofs.Common.{rules}
use Rattle.mill_push.proofs.Growing.{hull_is}
use Rattle.mill_geom.proofs.Stored.{least_stored, most_stored}
use Rattle.mill_push.proofs.known.hull.Goals as goal

pub returns : goal.returns
returns c =
    let a = c.args.a in
    let b = c.args.b in
    let first = least_stored c.min.result a.first b.first (search rules) (search rules) (search rules) c.min.ensures.value in
    let last = most_stored c.max.result a.last b.last (search rules) (search rules) (search rules) c.max.ensures.value in
    rw (first, last) (hull_is a b c.requires)
