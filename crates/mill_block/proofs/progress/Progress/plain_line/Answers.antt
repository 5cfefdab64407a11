use Rattle.std.proofs.Common.{◌≡◌, true, rules, arith}
use Rattle.mill_block.specs.Lines.{line_begun}
use Rattle.mill_block.proofs.PlainLemmas.{none-read, one-more-read, line-moves-if-ended}
use Rattle.mill_block.proofs.progress.Progress.plain_line.Goals as goal

pub loop-place-init : goal.loop-place-init
loop-place-init c = rw c.new-plain.ensures (record { to = none-read (line_begun c.args.self.now) c.args.line.now; within = omega arith })

pub loop-place-preserved : goal.loop-place-preserved
loop-place-preserved c =
    let taken : c.take.result ≡ true = search rules in
    record {
      to = one-more-read (line_begun c.args.self.now) c.args.line.now c.loop-place.place c.in_ok-number.number.end c.in_ok-number.number.num c.loop-place.plain c.take.new.self
          (c.take.ensures.capital taken) c.in_ok-number.ensures.word (c.take.ensures.goes taken) (c.take.ensures.more taken) c.loop-place.invariant.to;
      within = c.in_ok-number.ensures.within;
    }

pub returns : goal.returns
returns c =
    let is_ready : c.is_ready.result ≡ true = search rules in
    line-moves-if-ended c.end_plain.result c.args.self.now c.args.line.now c.loop-place.place c.loop-place.plain
    (c.is_ready.ensures is_ready) c.requires.here c.loop-place.invariant.to c.loop-place-test.false c.end_plain.ensures
