use Rattle.mill_dexel.proofs.Chunks.{AreTurnedTo}
use Rattle.mill_dexel.proofs.rows.run_block.Given as goal

abbrev pub invariant-loop-row : goal.invariant-loop-row
invariant-loop-row l = AreTurnedTo l.job.fields l.moves l.band.«end» l.row-index l.fn.rows l.rows
