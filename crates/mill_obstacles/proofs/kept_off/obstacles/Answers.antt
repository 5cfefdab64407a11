use Rattle.std.proofs.Common.{◌+◌, ◌*◌, ◌<◌, ◌≤◌, List, length, subst, sym, arith}
use Rattle.mill_base.specs.Ranges.{TrisInRange}
use Rattle.mill_base.specs.declared.points.Tri.{Tri}
use Rattle.mill_obstacles.proofs.Gathered.{all_in_range, all_of_them, few_enough}
use Rattle.mill_obstacles.proofs.kept_off.obstacles.Goals as goal

pub new-requires-clause-in_range : goal.new-requires-clause-in_range
new-requires-clause-in_range c =
    let job = c.args.job.now.fields in
    let whole = all_of_them job c.args.part.now c.fixtures-fixtures.result.now c.loop-fixture.fixture-index c.loop-fixture.all.items c.fixtures-fixtures.ensures.list
    c.loop-fixture-test.false c.loop-fixture.invariant in
    subst TrisInRange (sym whole) (all_in_range job c.args.part.now c.tris.ensures.in_range (rw c.fixtures-fixtures.ensures.list at c.fixtures-fixtures.ensures.in_range))

pub new-requires-clause-count : goal.new-requires-clause-count
new-requires-clause-count c =
    let job = c.args.job.now.fields in
    let whole = all_of_them job c.args.part.now c.fixtures-fixtures.result.now c.loop-fixture.fixture-index c.loop-fixture.all.items c.fixtures-fixtures.ensures.list
    c.loop-fixture-test.false c.loop-fixture.invariant in
    let few : length c.tris.result.now + 2 * length c.fixtures-fixtures.result.now ≤ 4294967295 = omega (c.if-count.false, arith) in
    subst (λ (tris : List Tri). length tris < 4294967296) (sym whole)
    (few_enough job c.args.part.now c.tris.result.now c.fixtures-fixtures.result.now c.tris.ensures.list c.fixtures-fixtures.ensures.list few)

pub returns : goal.returns
returns c =
    let whole = all_of_them c.args.job.now.fields c.args.part.now c.fixtures-fixtures.result.now c.loop-fixture.fixture-index c.loop-fixture.all.items
    c.fixtures-fixtures.ensures.list c.loop-fixture-test.false c.loop-fixture.invariant in
    rw c.new.ensures whole
