use Rattle.std.proofs.Common.{◌≡◌, true, false, rules, ◌≤◌, length, arith}
use Rattle.mill_block.specs.inner.PlainMoves.{TakenTo}
use Rattle.mill_block.proofs.PlainLemmas.{none-taken, one-more-taken, moves-if-ended}
use Rattle.mill_block.proofs.progress.Progress.plain_move.Goals as goal

pub loop-word-init : goal.loop-word-init
loop-word-init c = rw c.new-plain.ensures (none-taken c.args.self.now c.words-word-items.result.now)

pub loop-word-preserved : goal.loop-word-preserved
loop-word-preserved c =
    let taken : c.take.result ≡ true = search rules in
    one-more-taken c.args.self.now c.words-word-items.result.now c.loop-word.word-index _ c.loop-word.plain c.take.new.self c.loop-word-test.true (c.take.ensures.goes taken) c.loop-word.invariant

pub returns : goal.returns
returns c =
    let is_ready : c.is_ready.result ≡ true = search rules in
    let slash : c.args.words.now.slash ≡ false = search rules in
    let to : TakenTo c.args.self.now c.args.words.now.words c.loop-word.word-index c.loop-word.plain = rw (← c.words-word-items.ensures.words) c.loop-word.invariant in
    let all : length c.args.words.now.words ≤ c.loop-word.word-index = rw (← c.words-word-items.ensures.words) (omega (arith, c.loop-word-test.false)) in
    moves-if-ended c.end_plain.result c.args.self.now c.args.words.now c.loop-word.plain c.loop-word.word-index slash (c.is_ready.ensures is_ready) c.requires to all c.end_plain.ensures
