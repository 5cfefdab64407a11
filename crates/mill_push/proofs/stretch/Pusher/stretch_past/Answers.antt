use Rattle.std.proofs.Common.{rules, refl, w32}
use Rattle.std.proofs.lemmas.Int.{to_z-of_z}
use Rattle.mill_push.proofs.Beside.{both_cost, first_within, last_within, on_both, only_past, past_cost}
use Rattle.mill_push.proofs.Stored.{stored, less_one, and_one}
use Rattle.mill_push.proofs.stretch.Pusher.stretch_past.Goals as goal

pub last_near-last-requires-clause-held : goal.last_near-last-requires-clause-held
last_near-last-requires-clause-held g c =
    let last = last_within c.args.rest c.args.run c.requires.rest_ok c.requires.inside in
    rw (stored c.args.run.last last, and_one c.args.run.last last) c.requires.held

pub returns-then-not-is_touched-clause-stretch : goal.returns-then-not-is_touched-clause-stretch
returns-then-not-is_touched-clause-stretch g c =
    let f = first_within c.args.rest c.args.run c.requires.rest_ok c.requires.inside in
    let l = last_within c.args.rest c.args.run c.requires.rest_ok c.requires.inside in
    let to = stored c.args.rest.last c.requires.rest_ok.last_ok in
    let before = rw (stored c.args.run.first f, less_one c.args.run.first f) at c.if-not-is_touched.ensures.no in
    let right = rw (to, stored c.args.run.last l, and_one c.args.run.last l) at c.last_near-last.ensures.end in
    rw (stored c.args.run.last l, and_one c.args.run.last l, to_z-of_z w32 c.last_near-last.result (search rules))
    (only_past c.args.self.cutter c.args.tri.now c.args.self.fiber c.args.rest c.args.run c.requires.inside c.last_near-last.result c.requires.held (before refl) right)

pub returns-then-not-is_touched-clause-cost : goal.returns-then-not-is_touched-clause-cost
returns-then-not-is_touched-clause-cost g c =
    let l = last_within c.args.rest c.args.run c.requires.rest_ok c.requires.inside in
    let right = rw (stored c.args.rest.last c.requires.rest_ok.last_ok, stored c.args.run.last l, and_one c.args.run.last l) at c.last_near-last.ensures.cost in
    past_cost c.args.rest c.args.run c.requires.inside c.args.steps.now c.last_near-last.new.steps c.is_touched.new.steps c.args.aims.probes right c.is_touched.ensures.step

pub first_near-first-requires-clause-held : goal.first_near-first-requires-clause-held
first_near-first-requires-clause-held g c =
    let f = first_within c.args.rest c.args.run c.requires.rest_ok c.requires.inside in
    let touched = rw (stored c.args.run.first f, less_one c.args.run.first f) at c.if-not-is_touched.ensures.yes in
    rw (stored c.args.run.first f, less_one c.args.run.first f) (touched refl)

pub returns-clause-stretch : goal.returns-clause-stretch
returns-clause-stretch g c =
    let f = first_within c.args.rest c.args.run c.requires.rest_ok c.requires.inside in
    let l = last_within c.args.rest c.args.run c.requires.rest_ok c.requires.inside in
    let left = rw (stored c.args.rest.first c.requires.rest_ok.first_ok, stored c.args.run.first f, less_one c.args.run.first f) at c.first_near-first.ensures.end in
    let right = rw (stored c.args.rest.last c.requires.rest_ok.last_ok, stored c.args.run.last l, and_one c.args.run.last l) at c.last_near-last.ensures.end in
    rw (to_z-of_z w32 c.first_near-first.result (search rules), to_z-of_z w32 c.last_near-last.result (search rules))
    (on_both c.args.self.cutter c.args.tri.now c.args.self.fiber c.args.rest c.args.run c.requires.inside c.first_near-first.result c.last_near-last.result left right)

pub returns-clause-cost : goal.returns-clause-cost
returns-clause-cost g c =
    let f = first_within c.args.rest c.args.run c.requires.rest_ok c.requires.inside in
    let l = last_within c.args.rest c.args.run c.requires.rest_ok c.requires.inside in
    let left = rw (stored c.args.rest.first c.requires.rest_ok.first_ok, stored c.args.run.first f, less_one c.args.run.first f) at c.first_near-first.ensures.cost in
    let right = rw (stored c.args.rest.last c.requires.rest_ok.last_ok, stored c.args.run.last l, and_one c.args.run.last l) at c.last_near-last.ensures.cost in
    both_cost c.args.rest c.args.run c.requires.inside c.args.steps.now c.last_near-last.new.steps c.is_touched.new.steps c.first_near-first.new.steps c.args.aims.probes right c.is_touched.ensures.step left
