use Rattle.std.proofs.Common.{rules}
use Rattle.mill_words.proofs.Places.{blank-at}
use Rattle.mill_words.proofs.plain.behind_any_blank.Goals as goal

pub returns-then-is_blank-clause-same : goal.returns-then-is_blank-clause-same
returns-then-is_blank-clause-same c s l = blank-at s l c.args.line.now c.args.place (search rules) (search rules)
