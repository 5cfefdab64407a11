use Rattle.std.proofs.Common.{refl, inl, ◌∙◌}
use Rattle.mill_plan.specs.Plans.{answer_of}
use Rattle.mill_answer.specs.declared.status.Status.TheVariants as status
use Rattle.mill_run.specs.Answers.{Answer, planned}
use Rattle.mill_answer.specs.Calls.{Call, call_of}
use Rattle.mill_run.proofs.Storing.{stored_shows, unstored_shows}
use Rattle.mill_run.proofs.plan.store_plan.Goals as goal

pub returns-in-Ok-store-clause-shown : goal.returns-in-Ok-store-clause-shown
returns-in-Ok-store-clause-shown g c =
    let made = c.args.planned.now in
    let a : Answer = planned c.args.job.now.fields c.args.part.now c.args.name.now (answer_of made) in
    let call : Call = call_of c.tell.result (g.S.Shelf.shows c.args.shelf.now) (g.S.Shelf.shows c.store.new.shelf) (g.O.Sink.shows c.args.out.now) (g.O.Sink.shows c.tell.new.out) in
    inl
    (stored_shows call a c.args.name.now made.program.items c.deref-in-Ok-store.result.now refl refl (c.deref-in-Ok-store.ensures.value ∙ c.in-Ok.ensures)
    (rw c.deref.ensures.value at c.in-Ok-store.ensures.whole) c.tell.ensures)

pub returns-clause-shown : goal.returns-clause-shown
returns-clause-shown g c =
    let made = c.args.planned.now in
    let a : Answer = planned c.args.job.now.fields c.args.part.now c.args.name.now (answer_of made) in
    let call : Call = call_of status.WriteFault (g.S.Shelf.shows c.args.shelf.now) (g.S.Shelf.shows c.store.new.shelf) (g.O.Sink.shows c.args.out.now) (g.O.Sink.shows c.args.out.now) in
    inl (unstored_shows call a c.args.name.now made.program.items refl refl refl c.requires.counts (rw c.deref.ensures.value at c.in-Err-store.ensures.part))
