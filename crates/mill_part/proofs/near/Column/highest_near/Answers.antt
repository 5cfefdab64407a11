use Rattle.std.proofs.Common.{◌∙◌, ap, to_z, of_z}
use lib.IntN.{ℤ, pos, ◌-ℤ◌}
use mir.Syntax.{w32}
use Rattle.mill_base.proofs.Ranges.{coordinate}
use Rattle.mill_part.proofs.CoverLemmas.{between, raised_low, lowered_high, halved_out, smaller_low, smaller_high, weaker}
use Rattle.mill_part.proofs.near.Column.highest_near.Goals as goal

pub loop-low-smaller-then-is_near : goal.loop-low-smaller-then-is_near
loop-low-smaller-then-is_near c =
    let low = to_z w32 c.loop-low.low-bits in
    let high = to_z w32 c.loop-low.high-bits in
    let over = c.halfway-middle.ensures.over in
    let middle = coordinate c.halfway-middle.result (between low high c.halfway-middle.result c.loop-low.invariant.low_ok c.loop-low.invariant.high_ok
    (weaker low c.halfway-middle.result over) c.halfway-middle.ensures.under) in
    smaller_low low c.halfway-middle.result high (to_z w32 (of_z w32 c.halfway-middle.result)) middle over c.halfway-middle.ensures.under

pub loop-low-preserved-then-is_near : goal.loop-low-preserved-then-is_near
loop-low-preserved-then-is_near c =
    let low = to_z w32 c.loop-low.low-bits in
    let high = to_z w32 c.loop-low.high-bits in
    let over = c.halfway-middle.ensures.over in
    let middle = coordinate c.halfway-middle.result (between low high c.halfway-middle.result c.loop-low.invariant.low_ok c.loop-low.invariant.high_ok
    (weaker low c.halfway-middle.result over) c.halfway-middle.ensures.under) in
    rw middle (raised_low c.args.tri.now c.args.self.band c.args.self.x c.args.self.y _ low high c.halfway-middle.result c.loop-low.invariant over c.halfway-middle.ensures.under
    (rw middle at (c.is_near.ensures.yes c.if-is_near.true)))

pub loop-low-smaller : goal.loop-low-smaller
loop-low-smaller c =
    let low = to_z w32 c.loop-low.low-bits in
    let high = to_z w32 c.loop-low.high-bits in
    let over = c.halfway-middle.ensures.over in
    let middle = coordinate c.halfway-middle.result (between low high c.halfway-middle.result c.loop-low.invariant.low_ok c.loop-low.invariant.high_ok
    (weaker low c.halfway-middle.result over) c.halfway-middle.ensures.under) in
    let halved = lowered_high c.args.tri.now c.args.self.band c.args.self.x c.args.self.y _ low high c.halfway-middle.result c.loop-low.invariant over c.halfway-middle.ensures.under
    (rw middle at (c.is_near.ensures.no c.if-is_near.false)) in
    smaller_high low c.halfway-middle.result high (to_z w32 (of_z w32 (to_z w32 (of_z w32 c.halfway-middle.result) -ℤ pos 1)))
    (ap (λ (z : ℤ). to_z w32 (of_z w32 (z -ℤ pos 1))) middle ∙ coordinate (c.halfway-middle.result -ℤ pos 1) halved.high_ok) over c.halfway-middle.ensures.under

pub loop-low-preserved : goal.loop-low-preserved
loop-low-preserved c =
    let low = to_z w32 c.loop-low.low-bits in
    let high = to_z w32 c.loop-low.high-bits in
    let over = c.halfway-middle.ensures.over in
    let middle = coordinate c.halfway-middle.result (between low high c.halfway-middle.result c.loop-low.invariant.low_ok c.loop-low.invariant.high_ok
    (weaker low c.halfway-middle.result over) c.halfway-middle.ensures.under) in
    let halved = lowered_high c.args.tri.now c.args.self.band c.args.self.x c.args.self.y _ low high c.halfway-middle.result c.loop-low.invariant over c.halfway-middle.ensures.under
    (rw middle at (c.is_near.ensures.no c.if-is_near.false)) in
    rw (middle, coordinate (c.halfway-middle.result -ℤ pos 1) halved.high_ok) halved

pub returns-clause-highest : goal.returns-clause-highest
returns-clause-highest c =
    halved_out c.args.tri.now c.args.self.band c.args.self.x c.args.self.y _ (to_z w32 c.loop-low.low-bits) (to_z w32 c.loop-low.high-bits) c.loop-low.invariant c.loop-low-test.false
