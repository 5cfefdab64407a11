use Rattle.mill_words.specs.declared.marks.Region.TheVariants.{Outside}
use Rattle.mill_words.specs.inner.Places.{rest_of}
use Rattle.mill_words.proofs.Steps.{read_marks-end}
use Rattle.mill_words.proofs.line.read_bytes.Goals as goal

pub returns-clause-ok : goal.returns-clause-ok
returns-clause-ok c =
    let whole = read_marks-end c.args.line.now c.loop-place.place c.loop-place.region c.loop-place.stage c.loop-place.words c.loop-place.place (rest_of Outside c.args.begun c.args.words.now c.args.line.now c.args.from) c.loop-place-test.false c.loop-place.invariant.same in
    rw whole c.end_line.ensures.ok

pub returns-clause-fault : goal.returns-clause-fault
returns-clause-fault c =
    let whole = read_marks-end c.args.line.now c.loop-place.place c.loop-place.region c.loop-place.stage c.loop-place.words c.loop-place.place (rest_of Outside c.args.begun c.args.words.now c.args.line.now c.args.from) c.loop-place-test.false c.loop-place.invariant.same in
    rw whole c.end_line.ensures.fault
