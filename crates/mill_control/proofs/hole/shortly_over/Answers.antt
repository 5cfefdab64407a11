use Rattle.std.specs.Prelude.{◌≡◌, ◌+ℤ◌}
use Rattle.std.proofs.Common.{◌∙◌, arith, rules, w32}
use Rattle.std.proofs.lemmas.Int.{ints, to_z-of_z}
use Rattle.mill_base.specs.Numbers.{lesser}
use Rattle.mill_base.proofs.Ranges.{greatest_of-le}
use Rattle.mill_control.proofs.Stored.{stored_over}
use Rattle.mill_control.proofs.hole.shortly_over.Goals as goal

pub overflow_add-over : goal.overflow_add-over
overflow_add-over c = omega (arith, ints, greatest_of-le c.args.hole.unit, c.requires.depth.within, c.requires.hole.least, c.requires.hole.most)

pub returns : goal.returns
returns c =
    let h = c.args.hole in
    let top = to_z-of_z w32 c.args.top c.ranges.top in
    let over = stored_over h.unit c.requires.depth c.requires.hole.least c.requires.hole.most in
    let least : c.min.result ≡ lesser c.args.top (c.args.depth +ℤ h.peck_clearance) = rw (top, over) at c.min.ensures.value in
    to_z-of_z w32 c.min.result (search rules) ∙ least
