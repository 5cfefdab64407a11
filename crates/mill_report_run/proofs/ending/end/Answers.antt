use Rattle.std.proofs.Common.{map, refl, string_bytes}
use Rattle.mill_io.proofs.Held.{held_none}
use Rattle.mill_load.specs.declared.load.LoadFault.TheVariants.{Memory}
use Rattle.mill_report_run.proofs.Blaming.{short_blames}
use Rattle.mill_report_run.proofs.Telling.{outcome_shows, same_store}
use Rattle.mill_report_run.proofs.ending.end.Goals as goal
use Rattle.mill_report_run.specs.Headline.{Completes, Headline, Untaken}
use Rattle.mill_report_run.specs.Outcomes.{HasOutcome, Shows, failed}
use Rattle.mill_answer.proofs.ExitCodes.{ended_as}
use Rattle.mill_answer.specs.Calls.{BlamesFaults, Call, call_of}

pub returns-in-Ok-clause-outcome : goal.returns-in-Ok-clause-outcome
returns-in-Ok-clause-outcome g c =
    rw c.in-Ok.is (ended_as (λ (call : Call). HasOutcome (map string_bytes c.in-Ok.words.items) call) c.run.result c.exit_code_of.result _ _ _ _ c.exit_code_of.ensures (rw c.deref.ensures.value at c.run.ensures.outcome))

pub returns-in-Ok-clause-completes : goal.returns-in-Ok-clause-completes
returns-in-Ok-clause-completes g c =
    rw c.in-Ok.is (ended_as (λ (call : Call). Completes (map string_bytes c.in-Ok.words.items) call) c.run.result c.exit_code_of.result _ _ _ _ c.exit_code_of.ensures (rw c.deref.ensures.value at c.run.ensures.completes))

pub returns-in-Ok-clause-untaken : goal.returns-in-Ok-clause-untaken
returns-in-Ok-clause-untaken g c =
    rw c.in-Ok.is (ended_as (λ (call : Call). Untaken (map string_bytes c.in-Ok.words.items) call) c.run.result c.exit_code_of.result _ _ _ _ c.exit_code_of.ensures (rw c.deref.ensures.value at c.run.ensures.untaken))

pub returns-in-Ok-clause-headline : goal.returns-in-Ok-clause-headline
returns-in-Ok-clause-headline g c =
    rw c.in-Ok.is (ended_as (λ (call : Call). Headline (map string_bytes c.in-Ok.words.items) call) c.run.result c.exit_code_of.result _ _ _ _ c.exit_code_of.ensures (rw c.deref.ensures.value at c.run.ensures.headline))

pub returns-in-Ok-clause-faults : goal.returns-in-Ok-clause-faults
returns-in-Ok-clause-faults g c = ended_as BlamesFaults c.run.result c.exit_code_of.result _ _ _ _ c.exit_code_of.ensures c.run.ensures.faults

pub returns-in-Ok-clause-untouched : goal.returns-in-Ok-clause-untouched
returns-in-Ok-clause-untouched g c = rw c.in-Ok.is (rw c.deref.ensures.value at c.run.ensures.untouched)

pub returns-in-Err-clause-faults : goal.returns-in-Err-clause-faults
returns-in-Err-clause-faults g c =
    let call : Call = call_of c.tell_memory.result (g.S.Shelf.shows c.args.shelf.now) (g.S.Shelf.shows c.args.shelf.now) (g.O.Sink.shows c.args.out.now) (g.O.Sink.shows c.tell_memory.new.out) in
    ended_as BlamesFaults c.tell_memory.result c.exit_code_of-in-Err.result _ _ _ _ c.exit_code_of-in-Err.ensures (short_blames call (outcome_shows call (failed Memory) (same_store _) refl c.tell_memory.ensures))

pub returns-in-Err-clause-kept : goal.returns-in-Err-clause-kept
returns-in-Err-clause-kept g c = same_store _

pub returns-in-Err-clause-untouched : goal.returns-in-Err-clause-untouched
returns-in-Err-clause-untouched g c = λ any. refl

pub returns-in-Err-clause-held : goal.returns-in-Err-clause-held
returns-in-Err-clause-held g c = held_none _ _

pub returns-in-Err-clause-short : goal.returns-in-Err-clause-short
returns-in-Err-clause-short g c =
    let call : Call = call_of c.tell_memory.result (g.S.Shelf.shows c.args.shelf.now) (g.S.Shelf.shows c.args.shelf.now) (g.O.Sink.shows c.args.out.now) (g.O.Sink.shows c.tell_memory.new.out) in
    rw c.in-Err.is (ended_as (λ (call : Call). Shows call (failed Memory)) c.tell_memory.result c.exit_code_of-in-Err.result _ _ _ _ c.exit_code_of-in-Err.ensures
    (outcome_shows call (failed Memory) (same_store _) refl c.tell_memory.ensures))
