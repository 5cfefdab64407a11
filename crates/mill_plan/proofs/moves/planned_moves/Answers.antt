use Rattle.std.proofs.Common.{[]}
use Rattle.std.proofs.lemmas.Result.{IfErr-weaker, IfOk-weaker}
use Rattle.mill_job.specs.Columns.{home}
use Rattle.mill_links.specs.Safety.{GoSafely}
use Rattle.mill_plan.specs.inner.Steps.{IsMovesFault, IsRound, IsRoundFault}
use Rattle.mill_plan.proofs.Planning.{plan_goes, plan_if_made, round_told}
use Rattle.mill_plan.proofs.moves.planned_moves.Goals as goal

pub round_of-requires-clause-both : goal.round_of-requires-clause-both
round_of-requires-clause-both g c =
    let each = rw c.deref.ensures.value at c.in_ok-clear.ensures.each in
    rw (c.deref-2.ensures.value, c.deref-3.ensures.value) each

pub returns-clause-plan : goal.returns-clause-plan
returns-clause-plan g c =
    let say = rw c.deref.ensures.value at c.in_ok-clear.ensures.say in
    let round = rw (c.deref-2.ensures.value, c.deref-3.ensures.value) at c.round_of.ensures.round in
    plan_if_made c.args.job.now.fields c.args.part.now c.in_ok-visits.visits.items c.requires.nodes c.in_ok-visits.ensures.list c.round_of.result (round c.args.part.now say) c.round_of.ensures.few

pub returns-clause-safe : goal.returns-clause-safe
returns-clause-safe g c =
    let job = c.args.job.now.fields in
    let part = c.args.part.now in
    let visits = c.in_ok-visits.visits.items in
    let say = rw c.deref.ensures.value at c.in_ok-clear.ensures.say in
    let round = rw (c.deref-2.ensures.value, c.deref-3.ensures.value) at c.round_of.ensures.round in
    IfOk-weaker c.round_of.result (λ moves. IsRound job part visits moves.items) (λ moves. GoSafely job part [] (home job) moves.items (home job))
    (λ moves made. plan_goes job part visits moves.items c.args.job.now.is_job c.requires.under c.in_ok-visits.ensures.each made) (round part say)

pub returns-clause-fault : goal.returns-clause-fault
returns-clause-fault g c =
    let job = c.args.job.now.fields in
    let part = c.args.part.now in
    let visits = c.in_ok-visits.visits.items in
    let say = rw c.deref.ensures.value at c.in_ok-clear.ensures.say in
    let told = rw (c.deref-2.ensures.value, c.deref-3.ensures.value) at c.round_of.ensures.fault in
    IfErr-weaker c.round_of.result (IsRoundFault job part visits) (IsMovesFault job part)
    (λ fault h. round_told job part visits fault c.requires.nodes c.in_ok-visits.ensures.list h) (told part say)

pub returns-clause-stock : goal.returns-clause-stock
returns-clause-stock g c =
    let say = rw c.deref.ensures.value at c.in_ok-clear.ensures.say in
    let stock = rw (c.deref-2.ensures.value, c.deref-3.ensures.value) at c.round_of.ensures.stock in
    stock c.args.part.now say
