use Rattle.std.specs.Prelude.{◌≡◌, ◌+ℤ◌}
use Rattle.std.proofs.Common.{sym, ◌∙◌, w32, rules}
use Rattle.mill_control.proofs.Sinking.{back-in, back-out}
use Rattle.std.proofs.lemmas.Int.{to_z-of_z}
use Rattle.mill_base.specs.Numbers.{lesser}
use Rattle.mill_control.proofs.hole.back.Goals as goal

pub returns-then-goes_out : goal.returns-then-goes_out
returns-then-goes_out c =
    let top = to_z-of_z w32 c.args.top c.ranges.top in
    let depth = to_z-of_z w32 c.args.depth c.ranges.depth in
    let over : c.shortly_over.result ≡ lesser c.args.top (c.args.depth +ℤ c.args.hole.peck_clearance) = rw (top, depth) at c.shortly_over.ensures in
    to_z-of_z w32 c.shortly_over.result (search rules) ∙ over ∙ sym (back-out c.args.hole.cycle c.args.top c.args.hole.peck_clearance c.args.depth (sym c.goes_out.ensures ∙ c.if-goes_out.true))

pub returns : goal.returns
returns c = to_z-of_z w32 c.args.depth c.ranges.depth ∙ sym (back-in c.args.hole.cycle c.args.top c.args.hole.peck_clearance c.args.depth (sym c.goes_out.ensures ∙ c.if-goes_out.false))
