use Rattle.std.proofs.Common.{◌≡◌, true, get_or, rules}
use Rattle.mill_block.proofs.PlainLemmas.{none-read}
use Rattle.mill_block.proofs.QuickLemmas.{motion-read}
use Rattle.mill_block.proofs.quick_line.motion_at.Goals as goal

pub returns-clause-read : goal.returns-clause-read
returns-clause-read c p =
    let taken : c.take_motion.result ≡ true = search rules in
    let letter : get_or c.args.line.now 0 0 ≡ 71 = search rules in
    motion-read p c.args.line.now c.in_ok-number.number.end c.in_ok-number.number.num c.take_motion.new.kind letter c.in_ok-number.ensures.word (c.take_motion.ensures.kind taken)

pub returns-then-is_empty-clause-read : goal.returns-then-is_empty-clause-read
returns-then-is_empty-clause-read c p = none-read p c.args.line.now
