use Rattle.std.proofs.Common.{ap, ◌∙◌}
use Rattle.std.proofs.lemmas.Int.{to_z-of_z}
use Rattle.std.specs.Int.{w32}
use Rattle.std.specs.Prelude.{ℕ, ℤ}
use Rattle.mill_document.specs.Details.{failure_of, place_at, told_of}
use Rattle.mill_document.specs.Documents.{failure_data}
use Rattle.mill_document.proofs.Lists.{made_as, told_is}
use Rattle.mill_document.proofs.list.failing_value.Goals as goal

pub returns-clause-data : goal.returns-clause-data
returns-clause-data c =
    let job = c.args.job.now.fields in
    let part = c.args.part.now in
    let moves = c.args.moves.now in
    let reason = c.args.reason.now in
    let place = place_at c.args.places.now c.move_number.result in
    let told = told_is job part moves c.args.text.now c.args.places.now reason c.args.lift place c.line_words.result.now c.failure-failure.result c.args.top
    (ap (λ (k : ℕ). place_at c.args.places.now k) c.move_number.ensures) c.line_words.ensures
    (c.failure-failure.ensures ∙ ap (λ (t : ℤ). failure_of job part moves reason place.line t c.args.lift) (to_z-of_z w32 c.args.top c.ranges.top)) c.requires.top in
    made_as c.failure_value.result (failure_data job.unit c.line_words.result.now c.failure-failure.result) (told_of job part moves c.args.text.now c.args.places.now reason c.args.lift) told c.failure_value.ensures.«data»
