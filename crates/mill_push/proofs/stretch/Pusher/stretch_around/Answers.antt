use Rattle.std.proofs.Common.{arith}
use Rattle.std.proofs.lemmas.Int.{ints}
use lib.IntN.{pos, ◌+ℤ◌, ◌-ℤ◌}
use Rattle.mill_push.specs.Fibers.{IsTouched}
use Rattle.mill_push.proofs.Beside.{answer_over, answer_under, first_within, last_within, next_within, nothing, nothing_over, touch_and_search}
use Rattle.mill_push.proofs.Searching.{touched_here}
use Rattle.mill_push.proofs.Stored.{stored, less_one, and_one}
use Rattle.mill_push.proofs.stretch.Pusher.stretch_around.Goals as goal

pub stretch_past-requires-clause-held : goal.stretch_past-requires-clause-held
stretch_past-requires-clause-held g c =
    let l = last_within c.args.rest c.args.run c.requires.rest_ok c.requires.inside in
    let h = rw (stored c.args.run.last l, and_one c.args.run.last l) at c.in-Inside.ensures.touch in
    touched_here (IsTouched c.args.self.cutter c.args.tri.now c.args.self.fiber) (c.args.run.last +ℤ pos 1) h

pub returns-in-Inside-clause-cost : goal.returns-in-Inside-clause-cost
returns-in-Inside-clause-cost g c n p =
    let cost = c.stretch_past.ensures.cost n p in
    let step = c.touch_at.ensures.step in
    omega arith

pub returns-in-Apart-Less-clause-stretch : goal.returns-in-Apart-Less-clause-stretch
returns-in-Apart-Less-clause-stretch g c =
    let f = first_within c.args.rest c.args.run c.requires.rest_ok c.requires.inside in
    let l = last_within c.args.rest c.args.run c.requires.rest_ok c.requires.inside in
    let none = rw (c.in-Apart-Less.field-0-is, stored c.args.run.last l, and_one c.args.run.last l) at c.in-Apart-Less.ensures.touch in
    let found = rw (stored c.args.rest.first c.requires.rest_ok.first_ok, stored c.args.run.first f, less_one c.args.run.first f) at c.stretch_from.ensures.stretch in
    answer_under c.args.self.cutter c.args.tri.now c.args.self.fiber c.args.rest c.args.run c.requires.inside none c.stretch_from.result found

pub returns-in-Apart-Less-clause-cost : goal.returns-in-Apart-Less-clause-cost
returns-in-Apart-Less-clause-cost g c =
    let f = first_within c.args.rest c.args.run c.requires.rest_ok c.requires.inside in
    let in_order = c.requires.inside in
    let cost = rw (stored c.args.rest.first c.requires.rest_ok.first_ok, stored c.args.run.first f, less_one c.args.run.first f) at c.stretch_from.ensures.cost in
    let a = c.requires.inside.before in
    let b = c.requires.inside.some in
    let d = c.requires.inside.after in
    touch_and_search c.args.rest.first c.args.rest.last c.args.rest.first (c.args.run.first -ℤ pos 1) c.args.steps.now c.touch_at.new.steps c.stretch_from.new.steps 1 c.args.aims.probes (omega (arith, ints)) (omega (arith, ints)) (omega (arith, ints)) (omega arith) c.touch_at.ensures.step cost

pub returns-then-rest-after-clause-stretch : goal.returns-then-rest-after-clause-stretch
returns-then-rest-after-clause-stretch g c =
    let l = last_within c.args.rest c.args.run c.requires.rest_ok c.requires.inside in
    let none = rw (c.in-Apart-More.field-0-is, stored c.args.run.last l, and_one c.args.run.last l) at c.in-Apart-More.ensures.touch in
    let test = rw (stored c.args.rest.last c.requires.rest_ok.last_ok, stored c.args.run.last l, and_one c.args.run.last l) at c.if-rest-after.true in
    nothing_over c.args.self.cutter c.args.tri.now c.args.self.fiber c.args.rest c.args.run c.requires.inside none (omega (test, arith, ints))

pub returns-else-rest-after-clause-stretch : goal.returns-else-rest-after-clause-stretch
returns-else-rest-after-clause-stretch g c =
    let l = last_within c.args.rest c.args.run c.requires.rest_ok c.requires.inside in
    let next = next_within c.args.rest c.args.run c.requires.rest_ok c.requires.inside in
    let none = rw (c.in-Apart-More.field-0-is, stored c.args.run.last l, and_one c.args.run.last l) at c.in-Apart-More.ensures.touch in
    let found = rw (stored c.args.rest.last c.requires.rest_ok.last_ok, stored c.args.run.last l, and_one c.args.run.last l, and_one (c.args.run.last +ℤ pos 1) next) at c.stretch.ensures.stretch in
    answer_over c.args.self.cutter c.args.tri.now c.args.self.fiber c.args.rest c.args.run c.requires.inside none c.stretch.result found

pub returns-else-rest-after-clause-cost : goal.returns-else-rest-after-clause-cost
returns-else-rest-after-clause-cost g c =
    let l = last_within c.args.rest c.args.run c.requires.rest_ok c.requires.inside in
    let next = next_within c.args.rest c.args.run c.requires.rest_ok c.requires.inside in
    let to = stored c.args.rest.last c.requires.rest_ok.last_ok in
    let cost = rw (to, stored c.args.run.last l, and_one c.args.run.last l, and_one (c.args.run.last +ℤ pos 1) next) at c.stretch.ensures.cost in
    let test = rw (to, stored c.args.run.last l, and_one c.args.run.last l) at c.if-rest-after.false in
    let a = c.requires.inside.before in
    let b = c.requires.inside.some in
    touch_and_search c.args.rest.first c.args.rest.last ((c.args.run.last +ℤ pos 1) +ℤ pos 1) c.args.rest.last c.args.steps.now c.touch_at.new.steps c.stretch.new.steps 0 c.args.aims.probes (omega (arith, ints)) (omega (test, arith, ints)) (omega (arith, ints)) (omega arith) c.touch_at.ensures.step (λ n p. let h = cost n p in omega arith)

pub returns-in-Apart-Never-clause-stretch : goal.returns-in-Apart-Never-clause-stretch
returns-in-Apart-Never-clause-stretch g c =
    let l = last_within c.args.rest c.args.run c.requires.rest_ok c.requires.inside in
    let none = rw (c.in-Apart-Never.field-0-is, stored c.args.run.last l, and_one c.args.run.last l) at c.in-Apart-Never.ensures.touch in
    nothing c.args.self.cutter c.args.tri.now c.args.self.fiber c.args.rest c.args.run c.requires.inside none
