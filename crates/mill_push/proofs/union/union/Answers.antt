use Rattle.std.proofs.Common.{◌+◌, get_or, arith}
use Rattle.std.specs.Int.{int_max}
use Rattle.std.specs.List.{Contains}
use Rattle.std.proofs.lemmas.Int.{ints}
use lib.IntN.{pos, ◌+ℤ◌}
use lib.Signed.{◌<ℤ◌, ◌≤ℤ◌}
use Rattle.mill_base.specs.declared.limits.TheConstants.{MAX_COORDINATE}
use Rattle.mill_push.proofs.Joining.{grown_first, grown_on, grown_next, grown_all, at_head, at_later, all_taken, one_of_two, most_of_two, most_within}
use Rattle.mill_push.proofs.Stored.{stored, and_one}
use Rattle.mill_push.proofs.union.union.Goals as goal

pub loop-stretch-init : goal.loop-stretch-init
loop-stretch-init c =
    let xs = c.args.stretches.now in
    let first = c.in-Some.first.now in
    let h = at_head xs c.in-Some.others.now first c.in-Some.ensures.cases.0 in (
      λ from to spans. rw c.new-runs.ensures.items (grown_first xs c.requires.ordered from to first spans h.0 h.1),
      c.requires.lasts first (0, h.0, h.1),
    )

pub loop-stretch-preserved-then-stretch-run : goal.loop-stretch-preserved-then-stretch-run
loop-stretch-preserved-then-stretch-run c =
    let xs = c.args.stretches.now in
    let k = c.loop-stretch.stretch-index in
    let s = get_or c.in-Some.others.now k (record { first = pos 0; last = pos 0 }) in
    let run = c.loop-stretch.run in
    let h = at_later xs c.in-Some.others.now c.in-Some.first.now (record { first = pos 0; last = pos 0 }) k c.in-Some.ensures.cases.0 c.loop-stretch-test.true in
    let m : Contains xs s = (k + 1, h.0, h.1) in
    let i = c.loop-stretch.invariant in
    let first = stored s.first (c.requires.firsts s m) in
    let last = stored s.last (c.requires.lasts s m) in
    let end = stored run.last i.1 in
    let next = and_one run.last i.1 in
    let test = rw (first, end, next) at c.if-stretch-run.true in
    let near : s.first ≤ℤ (run.last +ℤ pos 1) = omega (test, arith, ints) in
    let value = rw (end, last) at c.max.ensures.value in
    let most = most_of_two run.last s.last in
    let within = most_within MAX_COORDINATE run.last s.last i.1 (c.requires.lasts s m) in
    rw (value, stored (int_max run.last s.last) within) (
      λ from to spans. grown_on xs c.requires.ordered from to (k + 1) c.loop-stretch.runs.items run s (int_max run.last s.last) spans h.0 h.1 near most.0 most.1 (one_of_two run.last s.last) (i.0 from to spans),
      within,
    )

pub loop-stretch-preserved : goal.loop-stretch-preserved
loop-stretch-preserved c =
    let xs = c.args.stretches.now in
    let k = c.loop-stretch.stretch-index in
    let s = get_or c.in-Some.others.now k (record { first = pos 0; last = pos 0 }) in
    let run = c.loop-stretch.run in
    let h = at_later xs c.in-Some.others.now c.in-Some.first.now (record { first = pos 0; last = pos 0 }) k c.in-Some.ensures.cases.0 c.loop-stretch-test.true in
    let m : Contains xs s = (k + 1, h.0, h.1) in
    let i = c.loop-stretch.invariant in
    let first = stored s.first (c.requires.firsts s m) in
    let end = stored run.last i.1 in
    let next = and_one run.last i.1 in
    let test = rw (first, end, next) at c.if-stretch-run.false in
    let beyond : (run.last +ℤ pos 1) <ℤ s.first = omega (test, arith, ints) in (
      λ from to spans. rw c.in_ok-push.ensures.items (grown_next xs c.requires.ordered from to (k + 1) c.loop-stretch.runs.items run s spans h.0 h.1 beyond (i.0 from to spans)),
      c.requires.lasts s m,
    )

pub returns : goal.returns
returns c =
    let xs = c.args.stretches.now in
    let all = all_taken xs c.in-Some.others.now c.in-Some.first.now c.loop-stretch.stretch-index c.in-Some.ensures.cases.0 c.loop-stretch-test.false in
    λ from to spans. rw c.in_ok-push-2.ensures.items (grown_all xs c.requires.ordered from to _ c.loop-stretch.runs.items c.loop-stretch.run all (c.loop-stretch.invariant.0 from to spans))
