use Rattle.std.proofs.Common.{◌∙◌, get_or, arith}
use Rattle.std.specs.Char.{to_ascii_uppercase}
use Rattle.mill_words.specs.declared.stage.Stage.TheVariants.{InWord}
use Rattle.mill_words.specs.inner.Places.{numbered_word}
use Rattle.mill_words.proofs.Numbers.{wider}
use Rattle.mill_words.proofs.PlainLines.{word-from, word-until}
use Rattle.mill_words.proofs.plain.plain_number_behind.Goals as goal

pub returns-clause-word : goal.returns-clause-word
returns-clause-word c l letter few ends =
    let upper = to_ascii_uppercase (get_or c.args.line.now c.args.place 0) in
    let number = c.in_ok-number.number in
    word-from l c.args.line.now c.args.place c.requires.within letter few
    ∙ c.in_ok-number.ensures.same upper c.args.place l
    ∙ c.behind_blank.ensures.same (InWord (numbered_word upper c.args.place number)) l
    ∙ word-until (numbered_word upper c.args.place number) l c.args.line.now c.behind_blank.result c.in_ok-number.ensures.some (omega (arith, c.behind_blank.ensures.forward, c.in_ok-number.ensures.forward)) ends

pub returns-clause-fits : goal.returns-clause-fits
returns-clause-fits c = wider c.in_ok-number.number.digits c.in_ok-number.number.num c.in_ok-number.ensures.few c.in_ok-number.ensures.fits
