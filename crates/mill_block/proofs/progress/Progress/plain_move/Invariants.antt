use Rattle.mill_block.specs.inner.PlainMoves.{TakenTo}
use Rattle.mill_block.proofs.progress.Progress.plain_move.Given as goal

abbrev pub invariant-loop-word : goal.invariant-loop-word
invariant-loop-word l = TakenTo l.self l.word-items l.word-index l.plain
