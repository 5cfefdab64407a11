use Rattle.std.proofs.Common.{arith, rules}
use Rattle.mill_said.specs.MachineSaid.{told_from, nothing_told}
use Rattle.mill_said.proofs.ToldLemmas.{told_from-next, told_from-fault, told_from-end}
use Rattle.mill_said.proofs.machine_said.MachineSaid.take_words.Goals as goal

pub returns-in_err-take_word-clause-fault : goal.returns-in_err-take_word-clause-fault
returns-in_err-take_word-clause-fault c =
    let told = told_from-fault c.args.before.now c.args.takes c.args.words.now c.loop-word.word-index _ c.loop-word.self c.in_err-take_word.field-0.0 (told_from c.args.before.now c.args.takes nothing_told c.args.words.now)
    c.loop-word-test.true c.in_err-take_word.ensures.fault c.loop-word.invariant.so_far in
    rw told (search rules)

pub loop-word-preserved : goal.loop-word-preserved
loop-word-preserved c = record {
  so_far =
      told_from-next c.args.before.now c.args.takes c.args.words.now c.loop-word.word-index _ c.loop-word.self c.take_word.new.self (told_from c.args.before.now c.args.takes nothing_told c.args.words.now)
      c.loop-word-test.true c.in_ok-take_word.ensures.ok c.loop-word.invariant.so_far;
  fits = c.in_ok-take_word.ensures.fits;
  few = omega (arith, c.take_word.ensures.few, c.loop-word.invariant.few);
}

pub returns-clause-ok : goal.returns-clause-ok
returns-clause-ok c =
    told_from-end c.args.before.now c.args.takes c.args.words.now c.loop-word.word-index c.loop-word.self (told_from c.args.before.now c.args.takes nothing_told c.args.words.now)
    c.loop-word-test.false c.loop-word.invariant.so_far
