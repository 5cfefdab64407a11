use Rattle.std.proofs.Common.{◌∙◌, ◌+◌, false, get_or, refl, arith}
use Rattle.std.specs.Char.{to_ascii_uppercase}
use Rattle.mill_words.specs.declared.stage.Stage.TheVariants.{InWord}
use Rattle.mill_words.specs.inner.Places.{plain_word}
use Rattle.mill_words.proofs.Digits.{first-digits, first-below}
use Rattle.mill_words.proofs.Numbers.{below}
use Rattle.mill_words.proofs.PlainLines.{word-from, word-until}
use Rattle.mill_words.proofs.decimals.digit_behind.Goals as goal

pub returns-clause-word : goal.returns-clause-word
returns-clause-word c l letter few ends =
    let upper = to_ascii_uppercase (get_or c.args.line.now c.args.place 0) in
    let word = plain_word upper c.args.place false c.in_ok-mant.mant 0 1 false in
    word-from l c.args.line.now c.args.place c.requires.within letter few
    ∙ first-digits c.args.line.now (c.args.place + 1) (c.args.place + 1 + 1) c.in_ok-mant.mant 1 upper c.args.place false l c.in_ok-mant.ensures.digits refl (omega arith)
    ∙ c.behind_space.ensures.same (InWord word) l
    ∙ word-until word l c.args.line.now c.behind_space.result (omega arith) (omega (arith, c.behind_space.ensures.forward)) ends

pub returns-clause-fits : goal.returns-clause-fits
returns-clause-fits c = record {
  mant = below 1 18 c.in_ok-mant.mant (omega arith) (first-below c.args.line.now (c.args.place + 1) (c.args.place + 1 + 1) c.in_ok-mant.mant 1 c.in_ok-mant.ensures.digits refl (omega arith));
  scale = omega arith;
}
