use Rattle.std.proofs.Common.{◌≡◌, ◌∙◌, sym, get_or, true, rules, arith}
use Rattle.mill_words.specs.declared.stage.Stage.TheVariants.{Between}
use Rattle.mill_words.specs.inner.Places.{rest_of, begins_word_in}
use Rattle.mill_words.proofs.Places.{begins-word, word-starts, letter-faults}
use Rattle.mill_words.proofs.line.take_next.Goals as goal

pub returns-in_err-finish-clause-fault : goal.returns-in_err-finish-clause-fault
returns-in_err-finish-clause-fault c =
    let letter : begins_word_in c.args.region.now (get_or c.args.line.now c.args.place 0) ≡ true = search rules in
    let begins = begins-word c.args.region.now (get_or c.args.line.now c.args.place 0) letter in
    let told = letter-faults c.args.stage.now c.args.words.now c.in_err-finish.field-0.0 c.args.line.now c.args.place c.requires.within begins.alphabetic c.in_err-finish.ensures.fault in
    rw (begins.outside, told) (search rules)

pub take_plain_words-behind-requires-clause-letter : goal.take_plain_words-behind-requires-clause-letter
take_plain_words-behind-requires-clause-letter c =
    let letter : begins_word_in c.args.region.now (get_or c.args.line.now c.args.place 0) ≡ true = search rules in
    (begins-word c.args.region.now (get_or c.args.line.now c.args.place 0) letter).alphabetic

pub returns-then-behind-place-clause-ok : goal.returns-then-behind-place-clause-ok
returns-then-behind-place-clause-ok c =
    let letter : begins_word_in c.args.region.now (get_or c.args.line.now c.args.place 0) ≡ true = search rules in
    let begins = begins-word c.args.region.now (get_or c.args.line.now c.args.place 0) letter in
    let started = word-starts c.args.stage.now c.finish.new.stage c.args.words.now c.finish.new.words c.args.line.now c.args.place c.args.region.now c.requires.within begins c.in_ok-finish.ensures.ok c.in_ok-finish.ensures.apart in
    rw begins.outside (c.take_plain_words-behind.ensures.same ∙ sym started)

pub returns-clause-ok : goal.returns-clause-ok
returns-clause-ok c =
    let letter : begins_word_in c.args.region.now (get_or c.args.line.now c.args.place 0) ≡ true = search rules in
    let begins = begins-word c.args.region.now (get_or c.args.line.now c.args.place 0) letter in
    let started = word-starts c.args.stage.now c.finish.new.stage c.args.words.now c.finish.new.words c.args.line.now c.args.place c.args.region.now c.requires.within begins c.in_ok-finish.ensures.ok c.in_ok-finish.ensures.apart in
    let stays : c.take_plain_words-behind.result ≡ c.args.place = omega (arith, c.take_plain_words-behind.ensures.forward, c.if-behind-place.false) in
    let same : rest_of c.args.region.now Between c.take_plain_words-behind.new.words c.args.line.now c.args.place
    ≡ rest_of c.args.region.now c.args.stage.now c.args.words.now c.args.line.now c.args.place
    = rw begins.outside (rw stays at c.take_plain_words-behind.ensures.same ∙ sym started) in
    rw same at c.take_byte-2.ensures.ok

pub returns-clause-fault : goal.returns-clause-fault
returns-clause-fault c =
    let letter : begins_word_in c.args.region.now (get_or c.args.line.now c.args.place 0) ≡ true = search rules in
    let begins = begins-word c.args.region.now (get_or c.args.line.now c.args.place 0) letter in
    let started = word-starts c.args.stage.now c.finish.new.stage c.args.words.now c.finish.new.words c.args.line.now c.args.place c.args.region.now c.requires.within begins c.in_ok-finish.ensures.ok c.in_ok-finish.ensures.apart in
    let stays : c.take_plain_words-behind.result ≡ c.args.place = omega (arith, c.take_plain_words-behind.ensures.forward, c.if-behind-place.false) in
    let same : rest_of c.args.region.now Between c.take_plain_words-behind.new.words c.args.line.now c.args.place
    ≡ rest_of c.args.region.now c.args.stage.now c.args.words.now c.args.line.now c.args.place
    = rw begins.outside (rw stays at c.take_plain_words-behind.ensures.same ∙ sym started) in
    rw same at c.take_byte-2.ensures.fault
