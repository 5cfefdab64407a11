use Rattle.std.proofs.Common.{◌≡◌, [], Err, arith, refl}
use Rattle.std.proofs.lemmas.Result.{err_from_is_err_and}
use Rattle.mill_load.specs.inner.Steps.{HasTaken}
use Rattle.mill_load.proofs.Programs.{taken_first, text_moves, text_fault, moves_ok}
use Rattle.mill_load.proofs.program.read_moves.Goals as goal

pub finish-requires : goal.finish-requires
finish-requires c =
    let none = taken_first c.home.result c.args.job.now.fields.unit c.rules_for.result c.new-reader.result c.new-moves.result.items c.new-reader.ensures.reading c.new-reader.ensures.moves c.new-moves.ensures.items in
    let taken : HasTaken c.home.result c.args.job.now.fields.unit c.rules_for.result c.take_piece.new.reader c.take_piece.new.moves.items c.args.text.now = c.in-Ok.ensures c.home.result c.args.job.now.fields.unit c.rules_for.result [] none in
    omega (arith, taken.lines)

pub returns-clause-told : goal.returns-clause-told
returns-clause-told c =
    let none = taken_first c.home.result c.args.job.now.fields.unit c.rules_for.result c.new-reader.result c.new-moves.result.items c.new-reader.ensures.reading c.new-reader.ensures.moves c.new-moves.ensures.items in
    let taken : HasTaken c.home.result c.args.job.now.fields.unit c.rules_for.result c.take_piece.new.reader c.take_piece.new.moves.items c.args.text.now = c.in-Ok.ensures c.home.result c.args.job.now.fields.unit c.rules_for.result [] none in
    text_moves c.args.job.now.fields c.home.result c.args.job.now.fields.unit c.rules_for.result c.args.text.now c.take_piece.new.reader c.take_piece.new.moves.items c.finish.new.out.items c.run_moves.new.moves.items c.in_ok-finish.field-0 c.home.ensures.value refl c.rules_for.ensures taken
    (c.in_ok-finish.ensures.answer (λ e. absurd cc)) (c.in_ok-finish.ensures.moves_are (λ e. absurd cc)) c.run_moves.ensures

pub returns-clause-ready : goal.returns-clause-ready
returns-clause-ready c =
    let none = taken_first c.home.result c.args.job.now.fields.unit c.rules_for.result c.new-reader.result c.new-moves.result.items c.new-reader.ensures.reading c.new-reader.ensures.moves c.new-moves.ensures.items in
    let taken : HasTaken c.home.result c.args.job.now.fields.unit c.rules_for.result c.take_piece.new.reader c.take_piece.new.moves.items c.args.text.now = c.in-Ok.ensures c.home.result c.args.job.now.fields.unit c.rules_for.result [] none in
    moves_ok c.args.job.now.fields c.home.result c.args.job.now.fields.unit c.rules_for.result c.finish.new.out.items c.run_moves.new.moves.items c.home.ensures.value refl c.rules_for.ensures (c.finish.ensures.moves c.home.result c.args.job.now.fields.unit c.rules_for.result taken.moves_ok) c.run_moves.ensures

pub returns-in_err-finish-clause-fault : goal.returns-in_err-finish-clause-fault
returns-in_err-finish-clause-fault c =
    let p = err_from_is_err_and c.from_residual.result c.from_residual.ensures.1 in
    let is : c.from_residual.result ≡ Err c.in_err-finish.field-0.0 = rw (p.1, p.2) refl in
    let none = taken_first c.home.result c.args.job.now.fields.unit c.rules_for.result c.new-reader.result c.new-moves.result.items c.new-reader.ensures.reading c.new-reader.ensures.moves c.new-moves.ensures.items in
    let taken : HasTaken c.home.result c.args.job.now.fields.unit c.rules_for.result c.take_piece.new.reader c.take_piece.new.moves.items c.args.text.now = c.in-Ok.ensures c.home.result c.args.job.now.fields.unit c.rules_for.result [] none in
    rw is (λ other. text_fault c.args.job.now.fields c.home.result c.args.job.now.fields.unit c.rules_for.result c.args.text.now c.take_piece.new.reader c.take_piece.new.moves.items c.in_err-finish.field-0.0 c.home.ensures.value refl c.rules_for.ensures taken
    (c.in_err-finish.ensures.answer (λ e. other cc)))
