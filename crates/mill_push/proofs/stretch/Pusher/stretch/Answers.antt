use Rattle.std.proofs.Common.{rules, to_z, arith}
use mir.Syntax.{w32}
use lib.IntN.{pos, ◌+ℤ◌, ◌-ℤ◌}
use lib.Signed.{◌<ℤ◌, ◌≤ℤ◌}
use Rattle.std.proofs.lemmas.Int.{ints, to_z-of_z}
use Rattle.mill_push.specs.Fibers.{IsTouched}
use Rattle.mill_push.proofs.Searching.{touched_here, window_starts, window_less, window_more, window_never, never_cost, window_ends, window_cost, found_stretch, found_cost, fewer_low, fewer_high}
use Rattle.mill_push.proofs.Stored.{stored}
use Rattle.mill_push.proofs.stretch.Pusher.stretch.Goals as goal

pub loop-low-init : goal.loop-low-init
loop-low-init g c = rw (stored c.args.from c.requires.from_ok, stored c.args.to c.requires.to_ok) (window_starts c.args.self.cutter c.args.tri.now c.args.self.fiber c.args.from c.args.to c.requires.order)

pub first_near-first-requires-clause-held : goal.first_near-first-requires-clause-held
first_near-first-requires-clause-held g c =
    let middle = to_z-of_z w32 c.middle-middle.result (search rules) in
    let h = rw middle at c.in-Inside.ensures.touch in
    rw middle (touched_here (IsTouched c.args.self.cutter c.args.tri.now c.args.self.fiber) c.middle-middle.result h)

pub last_near-last-requires-clause-held : goal.last_near-last-requires-clause-held
last_near-last-requires-clause-held g c =
    let middle = to_z-of_z w32 c.middle-middle.result (search rules) in
    let h = rw middle at c.in-Inside.ensures.touch in
    rw middle (touched_here (IsTouched c.args.self.cutter c.args.tri.now c.args.self.fiber) c.middle-middle.result h)

pub returns-in-Inside-clause-stretch : goal.returns-in-Inside-clause-stretch
returns-in-Inside-clause-stretch g c =
    let i = rw (stored c.args.from c.requires.from_ok, stored c.args.to c.requires.to_ok) at c.loop-low.invariant in
    let middle = to_z-of_z w32 c.middle-middle.result (search rules) in
    let left = rw middle at c.first_near-first.ensures.end in
    let right = rw middle at c.last_near-last.ensures.end in
    rw (to_z-of_z w32 c.first_near-first.result (search rules), to_z-of_z w32 c.last_near-last.result (search rules)) (found_stretch c.args.self.cutter c.args.tri.now c.args.self.fiber c.middle-middle.result c.first_near-first.result c.last_near-last.result left right i)

pub returns-in-Inside-clause-cost : goal.returns-in-Inside-clause-cost
returns-in-Inside-clause-cost g c =
    let i = rw (stored c.args.from c.requires.from_ok, stored c.args.to c.requires.to_ok) at c.loop-low.invariant in
    let middle = to_z-of_z w32 c.middle-middle.result (search rules) in
    let e = c.middle-middle.ensures in
    let left = rw middle at c.first_near-first.ensures.cost in
    let right = rw middle at c.last_near-last.ensures.cost in
    found_cost c.args.self.cutter c.args.tri.now c.args.self.fiber c.middle-middle.result c.args.aims.probes e.from e.to e.before e.after c.touch_at.ensures.step left right i

pub loop-low-smaller-in-Apart-Less : goal.loop-low-smaller-in-Apart-Less
loop-low-smaller-in-Apart-Less g c =
    let low = to_z w32 c.loop-low.low-bits in
    let high = to_z w32 c.loop-low.high-bits in
    rw (to_z-of_z w32 c.middle-middle.result (search rules), to_z-of_z w32 (c.middle-middle.result -ℤ pos 1) (search rules)) (fewer_low low high c.middle-middle.result c.middle-middle.ensures.from c.middle-middle.ensures.to)

pub loop-low-preserved-in-Apart-Less : goal.loop-low-preserved-in-Apart-Less
loop-low-preserved-in-Apart-Less g c =
    let from = stored c.args.from c.requires.from_ok in
    let to = stored c.args.to c.requires.to_ok in
    let middle = to_z-of_z w32 c.middle-middle.result (search rules) in
    let next = to_z-of_z w32 (c.middle-middle.result -ℤ pos 1) (search rules) in
    let none = rw (c.in-Apart-Less.field-0-is, middle) at c.in-Apart-Less.ensures.touch in
    rw (from, to, middle, next) (window_less c.args.self.cutter c.args.tri.now c.args.self.fiber c.middle-middle.result c.middle-middle.ensures.from c.middle-middle.ensures.to c.middle-middle.ensures.before c.touch_at.ensures.step none (rw (from, to) at c.loop-low.invariant))

pub loop-low-smaller : goal.loop-low-smaller
loop-low-smaller g c =
    let low = to_z w32 c.loop-low.low-bits in
    let high = to_z w32 c.loop-low.high-bits in
    rw (to_z-of_z w32 c.middle-middle.result (search rules), to_z-of_z w32 (c.middle-middle.result +ℤ pos 1) (search rules)) (fewer_high low high c.middle-middle.result c.middle-middle.ensures.from c.middle-middle.ensures.to)

pub loop-low-preserved : goal.loop-low-preserved
loop-low-preserved g c =
    let from = stored c.args.from c.requires.from_ok in
    let to = stored c.args.to c.requires.to_ok in
    let middle = to_z-of_z w32 c.middle-middle.result (search rules) in
    let next = to_z-of_z w32 (c.middle-middle.result +ℤ pos 1) (search rules) in
    let none = rw (c.in-Apart-More.field-0-is, middle) at c.in-Apart-More.ensures.touch in
    rw (from, to, middle, next) (window_more c.args.self.cutter c.args.tri.now c.args.self.fiber c.middle-middle.result c.middle-middle.ensures.from c.middle-middle.ensures.to c.middle-middle.ensures.after c.touch_at.ensures.step none (rw (from, to) at c.loop-low.invariant))

pub returns-in-Apart-Never-clause-stretch : goal.returns-in-Apart-Never-clause-stretch
returns-in-Apart-Never-clause-stretch g c =
    let middle = to_z-of_z w32 c.middle-middle.result (search rules) in
    let none = rw (c.in-Apart-Never.field-0-is, middle) at c.in-Apart-Never.ensures.touch in
    window_never c.args.self.cutter c.args.tri.now c.args.self.fiber c.args.from c.args.to c.middle-middle.result none

pub returns-in-Apart-Never-clause-cost : goal.returns-in-Apart-Never-clause-cost
returns-in-Apart-Never-clause-cost g c =
    let low = to_z w32 c.loop-low.low-bits in
    let high = to_z w32 c.loop-low.high-bits in
    let i = rw (stored c.args.from c.requires.from_ok, stored c.args.to c.requires.to_ok) at c.loop-low.invariant in
    let some : low ≤ℤ high = omega (c.loop-low-test.true, arith, ints) in
    never_cost c.args.self.cutter c.args.tri.now c.args.self.fiber c.args.aims.probes some c.touch_at.ensures.step i

pub returns-clause-stretch : goal.returns-clause-stretch
returns-clause-stretch g c =
    let low = to_z w32 c.loop-low.low-bits in
    let high = to_z w32 c.loop-low.high-bits in
    let i = rw (stored c.args.from c.requires.from_ok, stored c.args.to c.requires.to_ok) at c.loop-low.invariant in
    let none : high <ℤ low = omega (c.loop-low-test.false, arith, ints) in
    window_ends c.args.self.cutter c.args.tri.now c.args.self.fiber none i

pub returns-clause-cost : goal.returns-clause-cost
returns-clause-cost g c =
    let i = rw (stored c.args.from c.requires.from_ok, stored c.args.to c.requires.to_ok) at c.loop-low.invariant in
    window_cost c.args.self.cutter c.args.tri.now c.args.self.fiber c.args.aims.probes i
