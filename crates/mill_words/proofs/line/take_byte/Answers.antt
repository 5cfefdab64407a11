use Rattle.std.proofs.Common.{refl, rules}
use Rattle.mill_words.specs.inner.Places.{rest_of}
use Rattle.mill_words.proofs.Steps.{read_marks-next, read_marks-fault}
use Rattle.mill_words.proofs.line.take_byte.Goals as goal

pub returns-clause-ok : goal.returns-clause-ok
returns-clause-ok c =
    read_marks-next c.args.line.now c.args.place c.args.region.now c.args.stage.now c.take_mark.new.stage c.args.words.now c.take_mark.new.words c.args.place c.scan-next.result
    (rest_of c.args.region.now c.args.stage.now c.args.words.now c.args.line.now c.args.place) c.requires.within c.scan-next.ensures c.in_ok-take_mark.ensures.ok refl

pub returns-in_err-take_mark-clause-fault : goal.returns-in_err-take_mark-clause-fault
returns-in_err-take_mark-clause-fault c =
    let told = read_marks-fault c.args.line.now c.args.place c.args.region.now c.args.stage.now c.args.words.now c.args.place c.scan-next.result c.in_err-take_mark.field-0.0
    (rest_of c.args.region.now c.args.stage.now c.args.words.now c.args.line.now c.args.place) c.requires.within c.scan-next.ensures c.in_err-take_mark.ensures.fault refl in
    rw told (search rules)
