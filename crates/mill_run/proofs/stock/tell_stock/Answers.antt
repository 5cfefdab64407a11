use Rattle.std.proofs.Common.{refl, inr}
use Rattle.mill_run.specs.Answers.{stocked}
use Rattle.mill_answer.specs.Calls.{Call, call_of}
use Rattle.mill_run.specs.Stock.{StockAnswer, drawn, too_many_triangles}
use Rattle.mill_run.proofs.Serving.{answer_shows, made_prints}
use Rattle.mill_run.proofs.Stocks.{answer_drawn}
use Rattle.mill_run.proofs.Storing.{short_shows, unread, untouched}
use Rattle.mill_run.proofs.stock.tell_stock.Goals as goal

pub returns-in-Ok-clause-shown : goal.returns-in-Ok-clause-shown
returns-in-Ok-clause-shown g c =
    let made = c.in-Ok.drawn in
    let call : Call = call_of c.store_surface.result (g.S.Shelf.shows c.args.shelf.now) (g.S.Shelf.shows c.store_surface.new.shelf) (g.O.Sink.shows c.args.out.now) (g.O.Sink.shows c.store_surface.new.out) in
    answer_drawn c.args.cutting.now c.args.name.now call (drawn made.text.items made.triangles) c.in-Ok.ensures.drawn (c.store_surface.ensures.shown c.args.cutting.now.job.fields c.args.cutting.now.moves.items)

pub returns-in-Err-TooManyTriangles-clause-shown : goal.returns-in-Err-TooManyTriangles-clause-shown
returns-in-Err-TooManyTriangles-clause-shown g c =
    let count = c.in-Err-TooManyTriangles.count in
    let answer : StockAnswer = too_many_triangles count in
    let call : Call = call_of c.tell_made.result (g.S.Shelf.shows c.args.shelf.now) (g.S.Shelf.shows c.args.shelf.now) (g.O.Sink.shows c.args.out.now) (g.O.Sink.shows c.tell_made.new.out) in
    answer_drawn c.args.cutting.now c.args.name.now call answer (c.in-Err-TooManyTriangles.ensures.many count (cc))
    (answer_shows call (stocked c.args.cutting.now.job.fields c.args.cutting.now.moves.items c.args.name.now answer) refl (untouched call refl) (unread call refl)
    (made_prints c.line_of_triangles.result (stocked c.args.cutting.now.job.fields c.args.cutting.now.moves.items c.args.name.now answer) _ _ _ _ refl c.line_of_triangles.ensures c.tell_made.ensures))

pub returns-in-Err-WantOfMemory-clause-shown : goal.returns-in-Err-WantOfMemory-clause-shown
returns-in-Err-WantOfMemory-clause-shown g c =
    let call : Call = call_of c.tell_memory.result (g.S.Shelf.shows c.args.shelf.now) (g.S.Shelf.shows c.args.shelf.now) (g.O.Sink.shows c.args.out.now) (g.O.Sink.shows c.tell_memory.new.out) in
    inr (short_shows call refl c.tell_memory.ensures)
