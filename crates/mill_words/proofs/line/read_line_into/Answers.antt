use Rattle.std.proofs.Common.{◌≡◌, ℕ, List, refl, sym, ◌∙◌, arith, rules}
use Rattle.mill_words.specs.Lines.{line_of}
use Rattle.mill_words.specs.Words.{empty_line}
use Rattle.mill_words.specs.declared.marks.Region.TheVariants.{Outside}
use Rattle.mill_words.specs.declared.stage.Stage.TheVariants.{Start, Between}
use Rattle.mill_words.specs.inner.Places.{rest_of}
use Rattle.mill_words.proofs.Places.{starts-plain, between-end}
use Rattle.mill_words.proofs.line.read_line_into.Goals as goal

whole : (line : List ℕ) → rest_of Outside Start empty_line line 0 ≡ line_of line
unfolding line_of
whole line = refl

pub returns-then-not-begins_with_word-clause-ok : goal.returns-then-not-begins_with_word-clause-ok
returns-then-not-begins_with_word-clause-ok c = rw (← whole c.args.line.now) (rw c.clear.ensures at c.read_bytes.ensures.ok)

pub returns-then-not-begins_with_word-clause-fault : goal.returns-then-not-begins_with_word-clause-fault
returns-then-not-begins_with_word-clause-fault c = rw (← whole c.args.line.now) (rw c.clear.ensures at c.read_bytes.ensures.fault)

pub returns-then-behind-line-clause-ok : goal.returns-then-behind-line-clause-ok
returns-then-behind-line-clause-ok c =
    let plain : rest_of Outside Between c.take_plain_words-behind.new.words c.args.line.now c.take_plain_words-behind.result ≡ line_of c.args.line.now
    = c.take_plain_words-behind.ensures.same ∙ sym (starts-plain c.clear.new.self c.args.line.now (search rules) (search rules)) ∙ rw c.clear.ensures (whole c.args.line.now) in
    sym plain ∙ between-end c.take_plain_words-behind.new.words c.args.line.now c.take_plain_words-behind.result (omega (arith, c.if-behind-line.true))

pub returns-clause-ok : goal.returns-clause-ok
returns-clause-ok c =
    let plain : rest_of Outside Between c.take_plain_words-behind.new.words c.args.line.now c.take_plain_words-behind.result ≡ line_of c.args.line.now
    = c.take_plain_words-behind.ensures.same ∙ sym (starts-plain c.clear.new.self c.args.line.now (search rules) (search rules)) ∙ rw c.clear.ensures (whole c.args.line.now) in
    rw (← plain) c.read_bytes-2.ensures.ok

pub returns-clause-fault : goal.returns-clause-fault
returns-clause-fault c =
    let plain : rest_of Outside Between c.take_plain_words-behind.new.words c.args.line.now c.take_plain_words-behind.result ≡ line_of c.args.line.now
    = c.take_plain_words-behind.ensures.same ∙ sym (starts-plain c.clear.new.self c.args.line.now (search rules) (search rules)) ∙ rw c.clear.ensures (whole c.args.line.now) in
    rw (← plain) c.read_bytes-2.ensures.fault
