use Rattle.std.proofs.Common.{refl, inl, ◌∙◌}
use Rattle.mill_answer.specs.declared.status.Status.TheVariants as status
use Rattle.mill_run.specs.Answers.{Answer, stocked}
use Rattle.mill_answer.specs.Calls.{Call, call_of}
use Rattle.mill_run.specs.Stock.{drawn}
use Rattle.mill_run.proofs.Storing.{stored_shows, unstored_shows}
use Rattle.mill_run.proofs.stock.store_surface.Goals as goal

pub returns-in-Ok-store-clause-shown : goal.returns-in-Ok-store-clause-shown
returns-in-Ok-store-clause-shown g c = λ job moves.
    let made = c.args.drawn.now in
    let a : Answer = stocked job moves c.args.name.now (drawn made.text.items made.triangles) in
    let call : Call = call_of c.tell.result (g.S.Shelf.shows c.args.shelf.now) (g.S.Shelf.shows c.store.new.shelf) (g.O.Sink.shows c.args.out.now) (g.O.Sink.shows c.tell.new.out) in
    inl
    (stored_shows call a c.args.name.now made.text.items c.deref-in-Ok-store.result.now refl refl (c.deref-in-Ok-store.ensures.value ∙ c.in-Ok.ensures)
    (rw c.deref.ensures.value at c.in-Ok-store.ensures.whole) c.tell.ensures)

pub returns-clause-shown : goal.returns-clause-shown
returns-clause-shown g c = λ job moves.
    let made = c.args.drawn.now in
    let a : Answer = stocked job moves c.args.name.now (drawn made.text.items made.triangles) in
    let call : Call = call_of status.WriteFault (g.S.Shelf.shows c.args.shelf.now) (g.S.Shelf.shows c.store.new.shelf) (g.O.Sink.shows c.args.out.now) (g.O.Sink.shows c.args.out.now) in
    inl (unstored_shows call a c.args.name.now made.text.items refl refl refl c.requires (rw c.deref.ensures.value at c.in-Err-store.ensures.part))
