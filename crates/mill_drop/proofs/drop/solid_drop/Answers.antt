use mir.Syntax.{w32}
use Rattle.std.proofs.Common.{◌≡◌, ◌⊎◌, subst}
use Rattle.std.proofs.lemmas.Int.{to_z-of_z}
use lib.IntN.{◌+ℤ◌, ◌-ℤ◌}
use lib.Signed.{◌≤ℤ◌}
use Rattle.mill_base.specs.Solids.{at_tip}
use Rattle.mill_base.specs.declared.cutter.Cutter.{Cutter}
use Rattle.mill_drop.specs.inner.Solids.{IsSolidDrop}
use Rattle.mill_drop.proofs.Dropping.{raised_twice, drop_is}
use Rattle.mill_drop.proofs.Solids.{solid_drop_is, under_top}
use Rattle.mill_drop.proofs.Stored.{tip_stored, tool_stored}
use Rattle.mill_drop.proofs.drop.solid_drop.Goals as goal

pub returns-clause-drop : goal.returns-clause-drop
returns-clause-drop c =
    let x = to_z-of_z w32 c.args.x c.ranges.x in
    let y = to_z-of_z w32 c.args.y c.ranges.y in
    let from = tool_stored c.args.from c.requires.from_ok in
    let begin = tip_stored c.tip_from.result c.tip_from.ensures.bound in
    let start = tip_stored c.start_height-start.result c.start_height-start.ensures.bound in
    let tip = tip_stored c.raised_near-tip.result c.raised_near-tip.ensures.bound in
    let first = rw (x, y, begin) at c.start_height-start.ensures.raised in
    let second = rw (x, y, start) at c.raised_near-tip.ensures.raised in
    let square = rw (x, y) at c.square_around.ensures in
    let free = rw (x, y, square) at c.raised_near-tip.ensures.free in
    let cutter = c.cutter-cutter.result in
    let raised = raised_twice cutter c.args.part.now c.args.x c.args.y c.tip_from.result _ _ first second in
    let drop = drop_is cutter c.args.part.now c.args.x c.args.y c.tip_from.result c.raised_near-tip.result c.cutter-cutter.ensures.in_range raised free in
    let under : c.tip_from.result ≤ℤ (c.args.from +ℤ c.args.solid.lift) = rw from at c.tip_from.ensures.under in
    let kept : c.args.from ≤ℤ c.tool_from.result = rw from at c.tool_from.ensures.kept in
    let over : (c.raised_near-tip.result -ℤ c.args.solid.lift) ≤ℤ c.tool_from.result = rw tip at c.tool_from.ensures.over in
    let least : (c.tool_from.result ≡ c.args.from) ⊎ (c.tool_from.result ≡ c.raised_near-tip.result -ℤ c.args.solid.lift) = rw (from, tip) at c.tool_from.ensures.least in
    rw (tool_stored c.tool_from.result c.tool_from.ensures.bound)
    (solid_drop_is c.args.solid c.args.part.now c.args.x c.args.y c.args.from c.tip_from.result c.raised_near-tip.result c.tool_from.result under kept over least
    (subst (λ (t : Cutter). IsSolidDrop (at_tip t) c.args.part.now c.args.x c.args.y c.tip_from.result c.raised_near-tip.result) c.cutter-cutter.ensures.value drop))

pub returns-clause-reached : goal.returns-clause-reached
returns-clause-reached c =
    let from = tool_stored c.args.from c.requires.from_ok in
    let tip = tip_stored c.raised_near-tip.result c.raised_near-tip.ensures.bound in
    let least : (c.tool_from.result ≡ c.args.from) ⊎ (c.tool_from.result ≡ c.raised_near-tip.result -ℤ c.args.solid.lift) = rw (from, tip) at c.tool_from.ensures.least in
    rw (tool_stored c.tool_from.result c.tool_from.ensures.bound)
    (under_top c.args.solid c.args.from c.raised_near-tip.result c.tool_from.result c.raised_near-tip.ensures.bound.most least)
