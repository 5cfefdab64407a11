use Rattle.std.proofs.Common.{rules, w32, arith}
use Rattle.std.proofs.lemmas.Int.{ints, to_z-of_z}
use Rattle.mill_geom.proofs.Extents.{part_down, part_up}
use Rattle.mill_base.proofs.Ranges.{coordinate}
use Rattle.mill_geom.proofs.extent.upper_part.Goals as goal

pub returns-then-under-over : goal.returns-then-under-over
returns-then-under-over c =
    let x = coordinate c.args.over.place c.requires.over_ok.place_ok in
    let y = coordinate c.args.under.place c.requires.under_ok.place_ok in
    let less = rw (x, y) at c.if-under-over.true in
    let length = c.upper_length-length.ensures in
    let part = part_down c.args.over c.args.under c.upper_length-length.result c.requires.over_ok c.requires.under_ok (omega (less, arith, ints)) c.requires.over length.least length.most length.covers in
    rw (x, to_z-of_z w32 c.upper_length-length.result (search rules), coordinate _ part.in_range.first_ok) part

pub returns-else-under-over : goal.returns-else-under-over
returns-else-under-over c =
    let x = coordinate c.args.over.place c.requires.over_ok.place_ok in
    let y = coordinate c.args.under.place c.requires.under_ok.place_ok in
    let more = rw (x, y) at c.if-under-over.false in
    let length = c.upper_length-length.ensures in
    let part = part_up c.args.over c.args.under c.upper_length-length.result c.requires.over_ok c.requires.under_ok (omega (more, arith, ints)) c.requires.over length.least length.most length.covers in
    rw (x, to_z-of_z w32 c.upper_length-length.result (search rules), coordinate _ part.in_range.last_ok) part
