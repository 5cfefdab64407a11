use Rattle.std.proofs.Common.{rules, arith}
use mir.Syntax.{w32}
use lib.IntN.{pos, ◌+ℤ◌, ◌-ℤ◌}
use Rattle.std.proofs.lemmas.Int.{ints, to_z-of_z}
use Rattle.mill_push.specs.Fibers.{IsTouched}
use Rattle.mill_push.proofs.Searching.{touched_here, window_never, clear_from, clear_up_to, answer_before, answer_after, start_found, start_found_cost, start_part_cost}
use Rattle.mill_push.proofs.Stored.{stored, within_between, less_one, and_one}
use Rattle.mill_push.proofs.stretch.Pusher.stretch_from.Goals as goal

pub first_near-first-requires-clause-held : goal.first_near-first-requires-clause-held
first_near-first-requires-clause-held g c =
    let start = to_z-of_z w32 c.args.start c.ranges.start in
    let h = rw start at c.in-Inside.ensures.touch in
    rw start (touched_here (IsTouched c.args.self.cutter c.args.tri.now c.args.self.fiber) c.args.start h)

pub last_near-last-requires-clause-held : goal.last_near-last-requires-clause-held
last_near-last-requires-clause-held g c =
    let start = to_z-of_z w32 c.args.start c.ranges.start in
    let h = rw start at c.in-Inside.ensures.touch in
    rw start (touched_here (IsTouched c.args.self.cutter c.args.tri.now c.args.self.fiber) c.args.start h)

pub returns-in-Inside-clause-stretch : goal.returns-in-Inside-clause-stretch
returns-in-Inside-clause-stretch g c =
    let from = stored c.args.from c.requires.from_ok in
    let to = stored c.args.to c.requires.to_ok in
    let start = to_z-of_z w32 c.args.start c.ranges.start in
    let left = rw (from, start) at c.first_near-first.ensures.end in
    let right = rw (to, start) at c.last_near-last.ensures.end in
    rw (to_z-of_z w32 c.first_near-first.result (search rules), to_z-of_z w32 c.last_near-last.result (search rules)) (start_found c.args.self.cutter c.args.tri.now c.args.self.fiber c.args.from c.args.to c.args.start c.first_near-first.result c.last_near-last.result left right)

pub returns-in-Inside-clause-cost : goal.returns-in-Inside-clause-cost
returns-in-Inside-clause-cost g c =
    let from = stored c.args.from c.requires.from_ok in
    let to = stored c.args.to c.requires.to_ok in
    let start = to_z-of_z w32 c.args.start c.ranges.start in
    let left = rw (from, start) at c.first_near-first.ensures.cost in
    let right = rw (to, start) at c.last_near-last.ensures.cost in
    start_found_cost c.args.from c.args.to c.args.start c.args.steps.now c.touch_at.new.steps c.first_near-first.new.steps c.last_near-last.new.steps c.args.aims.probes c.requires.after c.requires.before c.touch_at.ensures.step left right

pub returns-then-start-from-clause-stretch : goal.returns-then-start-from-clause-stretch
returns-then-start-from-clause-stretch g c =
    let from = stored c.args.from c.requires.from_ok in
    let start = to_z-of_z w32 c.args.start c.ranges.start in
    let none = rw (c.in-Apart-Less.field-0-is, start) at c.in-Apart-Less.ensures.touch in
    let test = rw (from, start) at c.if-start-from.true in
    clear_from c.args.self.cutter c.args.tri.now c.args.self.fiber c.args.from c.args.to c.args.start (omega (test, arith, ints)) none

pub returns-then-to-start-clause-stretch : goal.returns-then-to-start-clause-stretch
returns-then-to-start-clause-stretch g c =
    let to = stored c.args.to c.requires.to_ok in
    let start = to_z-of_z w32 c.args.start c.ranges.start in
    let none = rw (c.in-Apart-More.field-0-is, start) at c.in-Apart-More.ensures.touch in
    let test = rw (to, start) at c.if-to-start.true in
    clear_up_to c.args.self.cutter c.args.tri.now c.args.self.fiber c.args.from c.args.to c.args.start (omega (test, arith, ints)) none

pub returns-else-start-from-clause-stretch : goal.returns-else-start-from-clause-stretch
returns-else-start-from-clause-stretch g c =
    let inside = within_between c.args.from c.args.start c.args.to c.requires.from_ok c.requires.to_ok c.requires.after c.requires.before in
    let start = stored c.args.start inside in
    let none = rw (c.in-Apart-Less.field-0-is, start) at c.in-Apart-Less.ensures.touch in
    let found = rw (stored c.args.from c.requires.from_ok, start, less_one c.args.start inside) at c.stretch.ensures.stretch in
    answer_before c.args.self.cutter c.args.tri.now c.args.self.fiber c.args.from c.args.to c.args.start c.stretch.result c.requires.before none found

pub returns-else-start-from-clause-cost : goal.returns-else-start-from-clause-cost
returns-else-start-from-clause-cost g c =
    let inside = within_between c.args.from c.args.start c.args.to c.requires.from_ok c.requires.to_ok c.requires.after c.requires.before in
    let from = stored c.args.from c.requires.from_ok in
    let start = stored c.args.start inside in
    let cost = rw (from, start, less_one c.args.start inside) at c.stretch.ensures.cost in
    let test = rw (from, start) at c.if-start-from.false in
    start_part_cost c.args.from c.args.to c.args.from (c.args.start -ℤ pos 1) c.args.steps.now c.touch_at.new.steps c.stretch.new.steps c.args.aims.probes (omega (arith, ints)) (omega (test, arith, ints)) (let b = c.requires.before in omega (arith, ints)) c.touch_at.ensures.step cost

pub returns-else-to-start-clause-stretch : goal.returns-else-to-start-clause-stretch
returns-else-to-start-clause-stretch g c =
    let inside = within_between c.args.from c.args.start c.args.to c.requires.from_ok c.requires.to_ok c.requires.after c.requires.before in
    let start = stored c.args.start inside in
    let none = rw (c.in-Apart-More.field-0-is, start) at c.in-Apart-More.ensures.touch in
    let found = rw (stored c.args.to c.requires.to_ok, start, and_one c.args.start inside) at c.stretch-in-Apart-More.ensures.stretch in
    answer_after c.args.self.cutter c.args.tri.now c.args.self.fiber c.args.from c.args.to c.args.start c.stretch-in-Apart-More.result c.requires.after none found

pub returns-else-to-start-clause-cost : goal.returns-else-to-start-clause-cost
returns-else-to-start-clause-cost g c =
    let inside = within_between c.args.from c.args.start c.args.to c.requires.from_ok c.requires.to_ok c.requires.after c.requires.before in
    let to = stored c.args.to c.requires.to_ok in
    let start = stored c.args.start inside in
    let cost = rw (to, start, and_one c.args.start inside) at c.stretch-in-Apart-More.ensures.cost in
    let test = rw (to, start) at c.if-to-start.false in
    start_part_cost c.args.from c.args.to (c.args.start +ℤ pos 1) c.args.to c.args.steps.now c.touch_at.new.steps c.stretch-in-Apart-More.new.steps c.args.aims.probes (let a = c.requires.after in omega (arith, ints)) (omega (test, arith, ints)) (omega (arith, ints)) c.touch_at.ensures.step cost

pub returns-in-Apart-Never-clause-stretch : goal.returns-in-Apart-Never-clause-stretch
returns-in-Apart-Never-clause-stretch g c =
    let start = to_z-of_z w32 c.args.start c.ranges.start in
    let none = rw (c.in-Apart-Never.field-0-is, start) at c.in-Apart-Never.ensures.touch in
    window_never c.args.self.cutter c.args.tri.now c.args.self.fiber c.args.from c.args.to c.args.start none
