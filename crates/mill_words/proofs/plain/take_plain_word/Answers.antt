use Rattle.std.proofs.Common.{◌≡◌, ◌∙◌, sym, get_or, length, false, arith, rules}
use Rattle.std.specs.Prelude.{◌==◌}
use Rattle.std.specs.Char.{to_ascii_uppercase}
use Rattle.std.proofs.lemmas.Bool.Decides.{nat_tests}
use Rattle.mill_words.specs.inner.Places.{numbered_word}
use Rattle.mill_words.proofs.Numbers.{wider}
use Rattle.mill_words.proofs.Places.{word-begins}
use Rattle.mill_words.proofs.plain.take_plain_word.Goals as goal

pub push-requires-clause-fits : goal.push-requires-clause-fits
push-requires-clause-fits c = wider c.in-Some.number.digits c.in-Some.number.num c.in-Some.ensures.few c.in-Some.ensures.fits

pub returns-in-Some-word_end-clause-same : goal.returns-in-Some-word_end-clause-same
returns-in-Some-word_end-clause-same c =
    let letter = to_ascii_uppercase (get_or c.args.line.now c.args.place 0) in
    let upper : c.to_ascii_uppercase-letter.result ≡ to_ascii_uppercase (get_or c.args.line.now c.args.place 0) = search rules in
    let other : (to_ascii_uppercase (get_or c.args.line.now c.args.place 0) == 78) ≡ false = rw (← upper) (grind (arith, nat_tests)) in
    let room : (length c.args.words.now.words == 32) ≡ false = grind (arith, nat_tests) in
    rw (c.push.ensures, upper) (sym (
    word-begins c.args.words.now c.args.line.now c.args.place c.requires.within c.requires.letter other room
    ∙ c.in-Some.ensures.same letter c.args.place c.args.words.now
    ∙ c.in-Some-word_end.ensures.same (numbered_word letter c.args.place c.in-Some.number) c.args.words.now c.in-Some.ensures.some))
