use Rattle.std.proofs.Common.{◌∙◌}
use Rattle.std.proofs.lemmas.Result.{err_from_is_err_and}
use Rattle.mill_stl.proofs.Steps.{meaning-word, fails-word}
use Rattle.mill_stl.proofs.reading.take_next.Goals as goal

pub returns-in_err-end_word-clause-fault : goal.returns-in_err-end_word-clause-fault
returns-in_err-end_word-clause-fault c =
    let p = err_from_is_err_and c.from_residual.result c.from_residual.ensures.1 in
    let word = c.word_end-end.ensures in
    rw (p.1, p.2)
    (fails-word c.in_err-end_word.field-0.0 c.args.snap c.args.unit c.args.text.now c.args.cursor c.word_end-end.result c.args.progress.now c.args.tris.now.items
    (record { forward = word.forward; within = word.within; word = word.word; space = word.space }) c.in_err-end_word.ensures.fault)

pub returns-clause-meaning : goal.returns-clause-meaning
returns-clause-meaning c =
    let word = c.word_end-end.ensures in
    c.behind_spaces.ensures.meaning c.args.snap c.args.unit c.end_word.new.progress c.end_word.new.tris.items
    ∙ meaning-word c.args.snap c.args.unit c.args.text.now c.args.cursor c.word_end-end.result c.args.progress.now c.end_word.new.progress c.args.tris.now.items c.end_word.new.tris.items
    (record { forward = word.forward; within = word.within; word = word.word; space = word.space }) c.in_ok-end_word.ensures.ok
