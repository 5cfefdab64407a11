use Rattle.std.specs.Prelude.{◌++◌}
use Rattle.std.proofs.Common.{refl, sym, ap, ◌∙◌, w32}
use Rattle.mill_control.specs.Holes.{at_height, cleared, over_hole, sunk}
use Rattle.mill_control.proofs.Counting.{none_added}
use Rattle.mill_control.proofs.Joining.{ok_gives, on_same}
use Rattle.mill_control.proofs.Sinking.{goes-out, stays-in}
use Rattle.std.proofs.lemmas.Int.{to_z-of_z}
use Rattle.mill_control.proofs.hole.go_out.Goals as goal

pub returns-then-goes_out-clause-ok : goal.returns-then-goes_out-clause-ok
returns-then-goes_out-clause-ok c =
    let h = c.args.hole in
    let top = to_z-of_z w32 c.args.top c.ranges.top in
    let depth = to_z-of_z w32 c.args.depth c.ranges.depth in
    ok_gives c.out_and_back.result (λ added. (rw (top, depth) at added) ∙ ap (λ ss. c.args.out.now.items ++ sunk (at_height (over_hole h) c.args.depth) ss)
    (sym (goes-out h.cycle c.args.top h.peck_clearance c.args.depth (sym c.goes_out.ensures ∙ c.if-goes_out.true)))) c.out_and_back.ensures.ok

pub returns-clause-ok : goal.returns-clause-ok
returns-clause-ok c =
    let h = c.args.hole in
    none_added c.args.out.now.items (sunk (at_height (over_hole h) c.args.depth) (cleared h.cycle c.args.top h.peck_clearance c.args.depth))
    (ap (λ ss. sunk (at_height (over_hole h) c.args.depth) ss) (stays-in h.cycle c.args.top h.peck_clearance c.args.depth (sym c.goes_out.ensures ∙ c.if-goes_out.false)))

pub returns-clause-on : goal.returns-clause-on
returns-clause-on c = on_same _ _ refl
