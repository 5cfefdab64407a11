use Rattle.std.proofs.Common.{◌≡◌, ◌+◌, ◌∷◌, ◌++◌, [], drop, length, Some, arith, rules}
use Rattle.std.proofs.lemmas.List.{length-append}
use Rattle.std.proofs.lemmas.List.Elements.{All-push}
use Rattle.std.proofs.lemmas.Result.{err_from_is_err_and}
use Rattle.toml.specs.View.{items_view, view}
use Rattle.mill_job.specs.Fixtures.{IsFixture, rows}
use Rattle.mill_job.specs.Tables.{as_integers, integers}
use Rattle.mill_job.proofs.Boxes.{IsRead, all_read, are_some, at_next, no_more_rows, one_fails, one_read}
use Rattle.mill_job.proofs.keep_out.each_fixture.Goals as goal

-- What is wrong with the next row is what is wrong with all.
pub returns-in_err-fixture-clause-value : goal.returns-in_err-fixture-clause-value
returns-in_err-fixture-clause-value c =
    let unit = c.args.unit in
    let values = c.args.values.now in
    let all = rows (items_view values) in
    let rest = rows (items_view (drop (c.loop-value.value-index + 1) values)) in
    let row = integers (items_view c.deref.result.now) in
    let is : row ≡ as_integers (view c.value-item.result) = search rules in
    let read = at_next unit all values c.loop-value.value-index c.value-item.result row c.loop-value.fixtures c.loop-value-test.true c.value-item.is is c.loop-value.invariant.1.0 in
    let answer = err_from_is_err_and c.from_residual.result c.from_residual.ensures.1 in
    rw (answer.1, answer.2) (one_fails unit all rest c.loop-value.fixtures row c.in_err-fixture.field-0.0 read c.in_err-fixture.ensures.value)

-- One with which nothing is wrong is read.
pub loop-value-preserved : goal.loop-value-preserved
loop-value-preserved c =
    let unit = c.args.unit in
    let values = c.args.values.now in
    let all = rows (items_view values) in
    let rest = rows (items_view (drop (c.loop-value.value-index + 1) values)) in
    let row = integers (items_view c.deref.result.now) in
    let fixtures = c.loop-value.fixtures in
    let fixture = c.in_ok-fixture.fixture in
    let is : row ≡ as_integers (view c.value-item.result) = search rules in
    let read = at_next unit all values c.loop-value.value-index c.value-item.result row fixtures c.loop-value-test.true c.value-item.is is c.loop-value.invariant.1.0 in
    let next = one_read unit all rest fixtures row fixture read c.in_ok-fixture.ensures.value in
    let longer : length (fixtures ++ fixture ∷ []) ≡ c.loop-value.value-index + 1 = omega (arith, length-append fixtures (fixture ∷ []), c.loop-value.invariant.0) in
    rw c.push.ensures (longer, (next, All-push (IsFixture unit) fixtures fixture c.loop-value.invariant.1.1 c.in_ok-fixture.ensures.in_range))

pub returns-clause-value : goal.returns-clause-value
returns-clause-value c =
    let all = rows (items_view c.args.values.now) in
    let done = no_more_rows c.args.values.now c.loop-value.value-index (omega arith) in
    let read : IsRead c.args.unit all (Some []) c.loop-value.fixtures = rw done at c.loop-value.invariant.1.0 in
    all_read c.args.unit all c.loop-value.fixtures c.requires.whole read (omega (arith, c.loop-value.invariant.0, c.requires.few))

pub returns-clause-in_range : goal.returns-clause-in_range
returns-clause-in_range c = are_some c.args.unit c.loop-value.fixtures (omega (arith, c.loop-value.invariant.0, c.requires.few)) c.loop-value.invariant.1.1
