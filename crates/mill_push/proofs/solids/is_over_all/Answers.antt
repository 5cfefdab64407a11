use Rattle.std.proofs.Common.{rules, w32}
use Rattle.std.proofs.lemmas.Int.{to_z-of_z}
use Rattle.mill_push.proofs.BothSolids.{under_most, under_top}
use Rattle.mill_push.proofs.solids.is_over_all.Goals as goal

pub returns-clause-yes : goal.returns-clause-yes
returns-clause-yes c =
    let z = to_z-of_z w32 c.args.z c.ranges.z in
    let top = to_z-of_z w32 c.unwrap_or.result (search rules) in
    let value = rw z at c.unwrap_or.ensures in
    rw (z, top) (under_top c.args.part.now c.top.result c.args.z c.unwrap_or.result c.top.ensures.none.0 c.top.ensures.greatest value)

pub returns-clause-no : goal.returns-clause-no
returns-clause-no c =
    let z = to_z-of_z w32 c.args.z c.ranges.z in
    let top = to_z-of_z w32 c.unwrap_or.result (search rules) in
    let value = rw z at c.unwrap_or.ensures in
    rw (z, top) (under_most c.args.part.now c.top.result c.args.z c.unwrap_or.result c.tris.ensures.in_range c.top.ensures.greatest value)
