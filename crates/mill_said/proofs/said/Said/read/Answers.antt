use Rattle.std.proofs.Common.{◌≡◌, ◌∙◌, arith, rules, refl, false}
use Rattle.mill_said.specs.Said.{said_from, said_by, nothing_said}
use Rattle.mill_said.proofs.SaidLemmas.{said_from-next, said_from-fault, said_from-end}
use Rattle.mill_said.proofs.said.Said.read.Goals as goal

pub returns-in_err-take_word-clause-fault : goal.returns-in_err-take_word-clause-fault
returns-in_err-take_word-clause-fault c =
    let words = c.words-word-items.result.now in
    let slash : c.args.words.now.slash ≡ false = search rules in
    let whole : said_by c.args.line c.args.positioned c.args.words.now ≡ said_from c.args.line c.args.positioned nothing_said words = rw (slash, c.words-word-items.ensures.words) refl in
    let told = said_from-fault c.args.line c.args.positioned words c.loop-word.word-index _ c.loop-word.self c.in_err-take_word.field-0.0 (said_from c.args.line c.args.positioned nothing_said words)
    c.loop-word-test.true c.in_err-take_word.ensures.fault c.loop-word.invariant.so_far in
    rw (whole ∙ told) (search rules)

pub loop-word-preserved : goal.loop-word-preserved
loop-word-preserved c =
    let words = c.words-word-items.result.now in record {
      so_far =
          said_from-next c.args.line c.args.positioned words c.loop-word.word-index _ c.loop-word.self c.take_word.new.self (said_from c.args.line c.args.positioned nothing_said words)
          c.loop-word-test.true c.in_ok-take_word.ensures.ok c.loop-word.invariant.so_far;
      fits = c.in_ok-take_word.ensures.fits;
      few = omega (arith, c.take_word.ensures.few, c.loop-word.invariant.few);
    }

pub returns-clause-ok : goal.returns-clause-ok
returns-clause-ok c =
    let words = c.words-word-items.result.now in
    let slash : c.args.words.now.slash ≡ false = search rules in
    let whole : said_by c.args.line c.args.positioned c.args.words.now ≡ said_from c.args.line c.args.positioned nothing_said words = rw (slash, c.words-word-items.ensures.words) refl in
    whole ∙ said_from-end c.args.line c.args.positioned words c.loop-word.word-index c.loop-word.self (said_from c.args.line c.args.positioned nothing_said words)
    c.loop-word-test.false c.loop-word.invariant.so_far
