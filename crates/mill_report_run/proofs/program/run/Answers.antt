use Rattle.mill_report_run.proofs.Blaming.{blames}
use Rattle.mill_report_run.proofs.Headlines.{completes_of, headline_of, untaken_of}
use Rattle.mill_report_run.proofs.program.run.Goals as goal

pub returns-clause-faults : goal.returns-clause-faults
returns-clause-faults g c = blames _ _ c.work.ensures.outcome

pub returns-clause-held : goal.returns-clause-held
returns-clause-held g c = c.work.ensures.outcome.held

pub returns-clause-kept : goal.returns-clause-kept
returns-clause-kept g c = c.work.ensures.outcome.shows.only

pub returns-clause-completes : goal.returns-clause-completes
returns-clause-completes g c = completes_of _ _ c.work.ensures.outcome

pub returns-clause-untaken : goal.returns-clause-untaken
returns-clause-untaken g c = untaken_of _ _ c.work.ensures.outcome

pub returns-clause-headline : goal.returns-clause-headline
returns-clause-headline g c = headline_of c.one_verdict.ensures c.start_is_safe.ensures _ _ c.work.ensures.outcome
