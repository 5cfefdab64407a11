use Rattle.std.proofs.Common.{◌∙◌, get_or, arith}
use Rattle.std.specs.Char.{to_ascii_uppercase}
use Rattle.mill_words.specs.declared.stage.Stage.TheVariants.{InWord}
use Rattle.mill_words.specs.inner.Places.{numbered_word}
use Rattle.mill_words.proofs.PlainLines.{word-from, word-until}
use Rattle.mill_words.proofs.decimals.decimal_behind.Goals as goal

pub returns-clause-word : goal.returns-clause-word
returns-clause-word c l letter few ends =
    let upper = to_ascii_uppercase (get_or c.args.line.now c.args.place 0) in
    let number = c.in_ok-number.number in
    word-from l c.args.line.now c.args.place c.requires.within letter few
    ∙ c.in_ok-number.ensures.same upper c.args.place l
    ∙ c.behind_space.ensures.same (InWord (numbered_word upper c.args.place number)) l
    ∙ word-until (numbered_word upper c.args.place number) l c.args.line.now c.behind_space.result c.in_ok-number.ensures.some (omega (arith, c.behind_space.ensures.forward, c.in_ok-number.ensures.forward)) ends
