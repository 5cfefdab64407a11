use Rattle.std.proofs.Common.{◌≡◌, ◌⊎◌, to_z}
use Rattle.std.proofs.lemmas.List.Elements.{Contains-get_or}
use mir.Syntax.{w32}
use lib.IntN.{◌+ℤ◌, ◌-ℤ◌}
use lib.Signed.{◌≤ℤ◌}
use Rattle.mill_base.proofs.Ranges.{coordinate}
use Rattle.mill_drop.proofs.Scanning.{drops_at_first, one_more, drop_after}
use Rattle.mill_drop.proofs.Solids.{solid_drop_is, under_top}
use Rattle.mill_drop.proofs.Stored.{tip_stored, tool_stored}
use Rattle.mill_drop.proofs.once.solid_once.Goals as goal

pub loop-tri-init : goal.loop-tri-init
loop-tri-init c =
    let start = tip_stored c.tip_from-start.result c.tip_from-start.ensures.bound in
    rw start (drops_at_first c.args.solid.cutter c.tris-tri-items.result.now _ _ c.tip_from-start.result, c.tip_from-start.ensures.bound)

pub raised-tip-requires-clause-tri_ok : goal.raised-tip-requires-clause-tri_ok
raised-tip-requires-clause-tri_ok c = c.tris-tri-items.ensures.in_range _ (rw (← c.tris-tri-items.ensures.list) (Contains-get_or _ _ _ c.loop-tri-test.true))

pub loop-tri-preserved : goal.loop-tri-preserved
loop-tri-preserved c =
    let stored = tip_stored c.raised-tip.result c.raised-tip.ensures.bound in
    let x = coordinate c.args.x c.requires.x_ok in
    let y = coordinate c.args.y c.requires.y_ok in
    let before = rw (x, y) at c.loop-tri.invariant.0 in
    let free = rw (x, y, c.cutter-cutter.ensures.value) at c.raised-tip.ensures.free in
    let least = rw (x, y, c.cutter-cutter.ensures.value) at c.raised-tip.ensures.least in
    rw (stored, x, y) (
      one_more c.args.solid.cutter c.tris-tri-items.result.now c.args.x c.args.y _ c.loop-tri.tri-index _ (to_z w32 c.loop-tri.tip-bits) c.raised-tip.result
          c.loop-tri-test.true before c.raised-tip.ensures.kept free least,
      c.raised-tip.ensures.bound,
    )

pub returns-clause-drop : goal.returns-clause-drop
returns-clause-drop c =
    let from = tool_stored c.args.from c.requires.from_ok in
    let start = tip_stored c.tip_from-start.result c.tip_from-start.ensures.bound in
    let x = coordinate c.args.x c.requires.x_ok in
    let y = coordinate c.args.y c.requires.y_ok in
    let tip = to_z w32 c.loop-tri.tip-bits in
    let before = rw (start, x, y, c.tris-tri-items.ensures.list) at c.loop-tri.invariant.0 in
    let drop = drop_after c.args.solid.cutter c.args.part.now c.args.x c.args.y c.tip_from-start.result c.loop-tri.tri-index tip (rw c.tris-tri-items.ensures.list at c.loop-tri-test.false) before in
    let under : c.tip_from-start.result ≤ℤ (c.args.from +ℤ c.args.solid.lift) = rw from at c.tip_from-start.ensures.under in
    let kept : c.args.from ≤ℤ c.tool_from.result = rw from at c.tool_from.ensures.kept in
    let over : (tip -ℤ c.args.solid.lift) ≤ℤ c.tool_from.result = c.tool_from.ensures.over in
    let least : (c.tool_from.result ≡ c.args.from) ⊎ (c.tool_from.result ≡ tip -ℤ c.args.solid.lift) = rw from at c.tool_from.ensures.least in
    rw (tool_stored c.tool_from.result c.tool_from.ensures.bound)
    (solid_drop_is c.args.solid c.args.part.now c.args.x c.args.y c.args.from c.tip_from-start.result tip c.tool_from.result under kept over least drop)

pub returns-clause-reached : goal.returns-clause-reached
returns-clause-reached c =
    let from = tool_stored c.args.from c.requires.from_ok in
    let tip = to_z w32 c.loop-tri.tip-bits in
    let least : (c.tool_from.result ≡ c.args.from) ⊎ (c.tool_from.result ≡ tip -ℤ c.args.solid.lift) = rw from at c.tool_from.ensures.least in
    rw (tool_stored c.tool_from.result c.tool_from.ensures.bound)
    (under_top c.args.solid c.args.from tip c.tool_from.result c.loop-tri.invariant.1.most least)
