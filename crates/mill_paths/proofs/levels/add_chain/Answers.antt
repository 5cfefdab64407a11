use Rattle.std.proofs.Common.{◌≡◌, ◌∙◌, sym, ap}
use Rattle.std.specs.Prelude.{slice_get, option_copied, Some}
use Rattle.std.proofs.lemmas.Result.{err_from_is_err_and}
use Rattle.mill_links.proofs.Joining.{ok_gives}
use Rattle.mill_paths.proofs.Along.{closed_chain, fault_gives, first_fault, open_chain, points_fault}
use Rattle.mill_paths.proofs.levels.add_chain.Goals as goal

pub returns-in_err-add_points-clause-fault : goal.returns-in_err-add_points-clause-fault
returns-in_err-add_points-clause-fault c =
    let p = err_from_is_err_and c.from_residual.result c.from_residual.ensures.1 in
    let here = rw c.deref.ensures.value at c.in_err-add_points.ensures.fault in
    rw (p.1, p.2) (points_fault c.args.job.now.fields.raster c.args.chain.now.points.items c.args.chain.now.closed c.args.list.now.visits.items c.in_err-add_points.field-0.0 here)

pub returns-then-not-chain-clause-ok : goal.returns-then-not-chain-clause-ok
returns-then-not-chain-clause-ok c =
    let added = rw c.deref.ensures.value at c.in_ok-add_points.ensures.ok in
    open_chain c.args.job.now.fields.raster c.args.chain.now.points.items c.args.chain.now.closed c.args.list.now.visits.items c.add_points.new.list.visits.items c.if-not-chain.true added

pub returns-in-Some-clause-ok : goal.returns-in-Some-clause-ok
returns-in-Some-clause-ok c =
    let items = c.deref-2.ensures.value in
    let added = rw c.deref.ensures.value at c.in_ok-add_points.ensures.ok in
    let is : slice_get c.args.chain.now.points.items 0 ≡ Some c.in-Some.first.now = rw (← items) (sym c.first.ensures.value ∙ ap option_copied c.in-Some.is) in
    let pushed = rw c.visit_at.ensures at c.push.ensures.ok in
    ok_gives c.push.result (λ at_first.
    closed_chain c.args.job.now.fields.raster c.args.chain.now.points.items c.args.chain.now.closed c.args.list.now.visits.items c.add_points.new.list.visits.items c.push.new.self.visits.items c.in-Some.first.now
    c.if-not-chain.false is added at_first) pushed

pub returns-in-Some-clause-fault : goal.returns-in-Some-clause-fault
returns-in-Some-clause-fault c =
    let items = c.deref-2.ensures.value in
    let added = rw c.deref.ensures.value at c.in_ok-add_points.ensures.ok in
    let is : slice_get c.args.chain.now.points.items 0 ≡ Some c.in-Some.first.now = rw (← items) (sym c.first.ensures.value ∙ ap option_copied c.in-Some.is) in
    let pushed = rw c.visit_at.ensures at c.push.ensures.fault in
    fault_gives c.push.result (λ fault here.
    first_fault c.args.job.now.fields.raster c.args.chain.now.points.items c.args.chain.now.closed c.args.list.now.visits.items c.add_points.new.list.visits.items c.in-Some.first.now fault
    c.if-not-chain.false is added here) pushed
