use Rattle.std.proofs.Common.{◌≡◌, [], Err, refl}
use Rattle.std.proofs.lemmas.Result.{err_from_is_err_and}
use Rattle.mill_ngc.specs.Pieces.{fed, reading_at}
use Rattle.mill_ngc.proofs.WholeText.{last_fault, last_moves}
use Rattle.mill_ffi.proofs.Setups.{failed_end}
use Rattle.mill_ffi.proofs.setup.moves_from.Goals as goal

pub returns-in_err-feed-clause-fault : goal.returns-in_err-feed-clause-fault
returns-in_err-feed-clause-fault c =
    let p = err_from_is_err_and c.from_residual.result c.from_residual.ensures.1 in
    let is : c.from_residual.result ≡ Err c.in_err-feed.field-0.0 = rw (p.1, p.2) refl in
    rw is (λ other.
    let all : (c.feed.new.self, c.feed.new.out.items) ≡ fed (reading_at c.args.start c.args.unit c.args.rules, []) c.args.text.now = rw (c.new-reader.ensures.reading, c.new-moves.ensures.items) at c.in_err-feed.ensures.fed (λ e. other cc) in
    last_fault c.args.start c.args.unit c.args.rules c.args.text.now (c.feed.new.self, c.feed.new.out.items) c.in_err-feed.field-0.0 all
    (failed_end c.feed.new.self c.feed.new.out.items c.in_err-feed.field-0.0 c.in_err-feed.ensures.answer))

pub returns-in_err-finish-clause-fault : goal.returns-in_err-finish-clause-fault
returns-in_err-finish-clause-fault c =
    let p = err_from_is_err_and c.from_residual-in_err-finish.result c.from_residual-in_err-finish.ensures.1 in
    let is : c.from_residual-in_err-finish.result ≡ Err c.in_err-finish.field-0.0 = rw (p.1, p.2) refl in
    let all : (c.feed.new.self, c.feed.new.out.items) ≡ fed (reading_at c.args.start c.args.unit c.args.rules, []) c.args.text.now = rw (c.new-reader.ensures.reading, c.new-moves.ensures.items) at c.in_ok-feed.ensures.fed (λ e. absurd cc) in
    rw is (λ other. last_fault c.args.start c.args.unit c.args.rules c.args.text.now (c.feed.new.self, c.feed.new.out.items) c.in_err-finish.field-0.0 all (c.in_err-finish.ensures.answer (λ e. other cc)))

pub returns-clause-reads : goal.returns-clause-reads
returns-clause-reads c =
    let all : (c.feed.new.self, c.feed.new.out.items) ≡ fed (reading_at c.args.start c.args.unit c.args.rules, []) c.args.text.now = rw (c.new-reader.ensures.reading, c.new-moves.ensures.items) at c.in_ok-feed.ensures.fed (λ e. absurd cc) in
    last_moves c.args.start c.args.unit c.args.rules c.args.text.now (c.feed.new.self, c.feed.new.out.items) c.in_ok-finish.field-0 c.finish.new.out.items all (c.in_ok-finish.ensures.answer (λ e. absurd cc)) (c.in_ok-finish.ensures.moves_are (λ e. absurd cc))
