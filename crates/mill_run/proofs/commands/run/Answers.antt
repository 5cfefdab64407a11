use Rattle.mill_run.proofs.Blaming.{blames_writes, blames_reads, keeps}
use Rattle.mill_run.proofs.Outcomes.{answers_of, completes_of, untaken_of}
use Rattle.mill_run.proofs.Headlines.{headline_of, plan_headline_of, stock_headline_of, rest_headline_of}
use Rattle.mill_run.proofs.commands.run.Goals as goal

pub returns-clause-faults : goal.returns-clause-faults
returns-clause-faults g c =
    let has = c.work.ensures.outcome in
    record { write = blames_writes _ has.outcome has.shows; read = blames_reads _ has.outcome has.shows }

pub returns-clause-kept : goal.returns-clause-kept
returns-clause-kept g c = λ nothing. keeps _ _ c.work.ensures.outcome nothing

pub returns-clause-held : goal.returns-clause-held
returns-clause-held g c = c.work.ensures.outcome.held

pub returns-clause-replies : goal.returns-clause-replies
returns-clause-replies g c =
    let has = c.work.ensures.outcome in
    record { answers = answers_of _ _ has; completes = completes_of _ _ has; untaken = untaken_of _ _ has }

pub returns-clause-headline : goal.returns-clause-headline
returns-clause-headline g c = headline_of c.one_verdict.ensures c.start_is_safe.ensures _ _ c.work.ensures.outcome

pub returns-clause-plan_headline : goal.returns-clause-plan_headline
returns-clause-plan_headline g c = plan_headline_of c.start_is_safe.ensures _ _ c.work.ensures.outcome

pub returns-clause-stock_headline : goal.returns-clause-stock_headline
returns-clause-stock_headline g c = stock_headline_of _ _ c.work.ensures.outcome

pub returns-clause-rest_headline : goal.returns-clause-rest_headline
returns-clause-rest_headline g c = rest_headline_of c.one_list_verdict.ensures c.start_is_safe.ensures _ _ c.work.ensures.outcome
