use Rattle.std.proofs.Common.{rules, w32, arith}
use Rattle.std.proofs.lemmas.Int.{ints, to_z-of_z}
use Rattle.mill_geom.proofs.Extents.{first_part, second_part, whole_part}
use Rattle.mill_geom.proofs.Stored.{least_stored, most_stored}
use Rattle.mill_geom.proofs.extent.edge_over.Goals as goal

pub returns-then-b-gt0-clause-part : goal.returns-then-b-gt0-clause-part
returns-then-b-gt0-clause-part c =
    let a = c.args.a in
    let b = c.args.b in
    let up = rw (to_z-of_z w32 a.height (search rules)) at c.if-a-gt0.true in
    let too = rw (to_z-of_z w32 b.height (search rules)) at c.if-b-gt0.true in
    let first = least_stored c.min.result a.place b.place (search rules) (search rules) (search rules) c.min.ensures.value in
    let last = most_stored c.max.result a.place b.place (search rules) (search rules) (search rules) c.max.ensures.value in
    rw (first, last) (whole_part a b (omega (up, arith, ints)) (omega (too, arith, ints)))

pub returns-then-a-gt0-clause-part : goal.returns-then-a-gt0-clause-part
returns-then-a-gt0-clause-part c =
    let a = c.args.a in
    let b = c.args.b in
    let up = rw (to_z-of_z w32 a.height (search rules)) at c.if-a-gt0.true in
    let down = rw (to_z-of_z w32 b.height (search rules)) at c.if-b-gt0.false in
    first_part a b c.upper_part.result (omega (up, arith, ints)) (omega (down, arith, ints)) c.upper_part.ensures

pub returns-then-b-gt0-2-clause-part : goal.returns-then-b-gt0-2-clause-part
returns-then-b-gt0-2-clause-part c =
    let a = c.args.a in
    let b = c.args.b in
    let down = rw (to_z-of_z w32 a.height (search rules)) at c.if-a-gt0.false in
    let up = rw (to_z-of_z w32 b.height (search rules)) at c.if-b-gt0-2.true in
    second_part a b c.upper_part-then-b-gt0-2.result (omega (down, arith, ints)) (omega (up, arith, ints)) c.upper_part-then-b-gt0-2.ensures
