use Rattle.std.proofs.Common.{map, refl, string_bytes}
use Rattle.mill_io.proofs.Held.{held_none}
use Rattle.mill_answer.specs.Calls.{BlamesFaults, Call, call_of}
use Rattle.mill_run.specs.Headline.{Headlines, Replies}
use Rattle.mill_run.specs.Outcomes.{HasOutcome, Shows, no_memory}
use Rattle.mill_run.proofs.Blaming.{blames_reads, blames_writes}
use Rattle.mill_answer.proofs.ExitCodes.{ended_as}
use Rattle.mill_run.proofs.Serving.{same_store}
use Rattle.mill_run.proofs.Storing.{short_shows}
use Rattle.mill_run.proofs.ending.end.Goals as goal

pub returns-in-Ok-clause-faults : goal.returns-in-Ok-clause-faults
returns-in-Ok-clause-faults g c =
    ended_as (λ (call : Call). BlamesFaults call) c.run.result c.exit_code_of.result _ _ _ _ c.exit_code_of.ensures c.run.ensures.faults

pub returns-in-Ok-clause-kept : goal.returns-in-Ok-clause-kept
returns-in-Ok-clause-kept g c = rw c.in-Ok.is (rw c.deref.ensures.value at c.run.ensures.kept)

pub returns-in-Ok-clause-untouched : goal.returns-in-Ok-clause-untouched
returns-in-Ok-clause-untouched g c = rw c.in-Ok.is (rw c.deref.ensures.value at c.run.ensures.untouched)

pub returns-in-Ok-clause-held : goal.returns-in-Ok-clause-held
returns-in-Ok-clause-held g c = c.run.ensures.held

pub returns-in-Ok-clause-outcome : goal.returns-in-Ok-clause-outcome
returns-in-Ok-clause-outcome g c =
    rw c.in-Ok.is (ended_as (λ (call : Call). HasOutcome (map string_bytes c.in-Ok.words.items) call) c.run.result c.exit_code_of.result _ _ _ _ c.exit_code_of.ensures (rw c.deref.ensures.value at c.run.ensures.outcome))

pub returns-in-Ok-clause-replies : goal.returns-in-Ok-clause-replies
returns-in-Ok-clause-replies g c =
    rw c.in-Ok.is
    (ended_as (λ (call : Call). Replies (map string_bytes c.in-Ok.words.items) call) c.run.result c.exit_code_of.result _ _ _ _ c.exit_code_of.ensures (rw c.deref.ensures.value at c.run.ensures.replies))

pub returns-in-Ok-clause-headlines : goal.returns-in-Ok-clause-headlines
returns-in-Ok-clause-headlines g c =
    let ended : Headlines (map string_bytes c.in-Ok.words.items) (call_of c.run.result (g.S.Shelf.shows c.args.shelf.now) (g.S.Shelf.shows c.run.new.shelf) (g.O.Sink.shows c.args.out.now) (g.O.Sink.shows c.run.new.out)) =
    record {
      verify = rw c.deref.ensures.value at c.run.ensures.headline;
      plan = rw c.deref.ensures.value at c.run.ensures.plan_headline;
      stock = rw c.deref.ensures.value at c.run.ensures.stock_headline;
      rest = rw c.deref.ensures.value at c.run.ensures.rest_headline;
    } in
    rw c.in-Ok.is (ended_as (λ (call : Call). Headlines (map string_bytes c.in-Ok.words.items) call) c.run.result c.exit_code_of.result _ _ _ _ c.exit_code_of.ensures ended)

pub returns-in-Err-clause-faults : goal.returns-in-Err-clause-faults
returns-in-Err-clause-faults g c =
    let call : Call = call_of c.tell_memory.result (g.S.Shelf.shows c.args.shelf.now) (g.S.Shelf.shows c.args.shelf.now) (g.O.Sink.shows c.args.out.now) (g.O.Sink.shows c.tell_memory.new.out) in
    let shows : Shows call no_memory = short_shows call refl c.tell_memory.ensures in
    ended_as (λ (call : Call). BlamesFaults call) c.tell_memory.result c.exit_code_of-in-Err.result _ _ _ _ c.exit_code_of-in-Err.ensures
    (record { write = blames_writes call no_memory shows; read = blames_reads call no_memory shows })

pub returns-in-Err-clause-kept : goal.returns-in-Err-clause-kept
returns-in-Err-clause-kept g c = λ nothing. same_store (g.S.Shelf.shows c.args.shelf.now)

pub returns-in-Err-clause-held : goal.returns-in-Err-clause-held
returns-in-Err-clause-held g c = held_none (g.S.Shelf.shows c.args.shelf.now).contents (g.S.Shelf.shows c.args.shelf.now).log

pub returns-in-Err-clause-short : goal.returns-in-Err-clause-short
returns-in-Err-clause-short g c =
    let call : Call = call_of c.tell_memory.result (g.S.Shelf.shows c.args.shelf.now) (g.S.Shelf.shows c.args.shelf.now) (g.O.Sink.shows c.args.out.now) (g.O.Sink.shows c.tell_memory.new.out) in
    rw c.in-Err.is (ended_as (λ (call : Call). Shows call no_memory) c.tell_memory.result c.exit_code_of-in-Err.result _ _ _ _ c.exit_code_of-in-Err.ensures (short_shows call refl c.tell_memory.ensures))
