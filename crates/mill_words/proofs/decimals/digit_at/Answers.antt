use Rattle.std.proofs.Common.{arith}
use Rattle.mill_words.proofs.Digits.{no-digit}
use Rattle.mill_words.proofs.decimals.digit_at.Goals as goal

pub returns-clause-digits : goal.returns-clause-digits
returns-clause-digits c = c.in_ok-digit.ensures.value c.args.place 0 (omega arith) (no-digit c.args.line.now c.args.place 0)
