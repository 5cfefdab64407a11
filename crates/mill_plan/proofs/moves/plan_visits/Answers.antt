use Rattle.std.proofs.Common.{◌≡◌, ◌++◌, rules}
use Rattle.std.proofs.lemmas.Result.{err_from_is_err_and}
use Rattle.mill_plan.proofs.Planning.{each_joined, finish_told, level_told, rough_told, visits_joined}
use Rattle.mill_plan.proofs.moves.plan_visits.Goals as goal

pub returns-in_err-visits-clause-fault : goal.returns-in_err-visits-clause-fault
returns-in_err-visits-clause-fault g c =
    let p = err_from_is_err_and c.from_residual.result c.from_residual.ensures.1 in
    rw (p.1, p.2)
    (rough_told c.args.job.now.fields c.args.part.now c.rough_visits.result c.in_err-visits.field-0.0 c.in_err-visits.was c.requires.nodes c.rough_visits.ensures.nodes c.rough_visits.ensures.visits)

pub returns-in_err-level-clause-fault : goal.returns-in_err-level-clause-fault
returns-in_err-level-clause-fault g c =
    let p = err_from_is_err_and c.from_residual-in_err-level.result c.from_residual-in_err-level.ensures.1 in
    rw (p.1, p.2)
    (level_told c.args.job.now.fields c.args.part.now c.level_visits.result c.in_err-level.field-0.0 c.in_err-level.was c.requires.nodes c.level_visits.ensures.nodes c.level_visits.ensures.visits)

pub returns-in_err-finish-clause-fault : goal.returns-in_err-finish-clause-fault
returns-in_err-finish-clause-fault g c =
    let p = err_from_is_err_and c.from_residual-in_err-finish.result c.from_residual-in_err-finish.ensures.1 in
    rw (p.1, p.2)
    (finish_told c.args.job.now.fields c.args.part.now c.finish_visits.result c.in_err-finish.field-0.0 c.in_err-finish.was c.requires.nodes c.finish_visits.ensures.nodes c.finish_visits.ensures.visits)

pub returns-clause-list : goal.returns-clause-list
returns-clause-list g c =
    let joined : c.extend_from_slice-2.new.self.items ≡ c.in_ok-visits.visits.items ++ c.in_ok-level.level.items ++ c.in_ok-finish.finish.items = search rules in
    visits_joined c.args.job.now.fields c.args.part.now c.in_ok-visits.visits.items c.in_ok-level.level.items c.in_ok-finish.finish.items c.extend_from_slice-2.new.self.items
    c.in_ok-visits.ensures.list c.in_ok-level.ensures.list c.in_ok-finish.ensures.list joined

pub returns-clause-each : goal.returns-clause-each
returns-clause-each g c =
    let joined : c.extend_from_slice-2.new.self.items ≡ c.in_ok-visits.visits.items ++ c.in_ok-level.level.items ++ c.in_ok-finish.finish.items = search rules in
    each_joined c.args.job.now.fields c.args.part.now c.in_ok-visits.visits.items c.in_ok-level.level.items c.in_ok-finish.finish.items c.extend_from_slice-2.new.self.items
    c.in_ok-visits.ensures.each c.in_ok-level.ensures.each c.in_ok-finish.ensures.each joined
