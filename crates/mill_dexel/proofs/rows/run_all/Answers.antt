use Rattle.std.proofs.Common.{ℕ, subst}
use Rattle.std.specs.List.{AllZip}
use Rattle.mill_dexel.specs.Turns.{IsTurnedUpTo}
use Rattle.mill_dexel.proofs.Chunks.{rows_start, rows_join, rows_end}
use Rattle.mill_dexel.proofs.rows.run_all.Goals as goal

pub loop-first-init : goal.loop-first-init
loop-first-init c = (rows_start c.args.job.now.fields c.args.moves.now c.args.rows.now, c.requires.rows_ok)

pub loop-first-preserved : goal.loop-first-preserved
loop-first-preserved c =
    let turned = subst (λ (n : ℕ). AllZip (IsTurnedUpTo c.args.job.now.fields c.args.moves.now n) c.loop-first.rows c.run_block.new.rows) c.band_of.ensures.«end» c.run_block.ensures.turned in
    (rows_join c.args.job.now.fields c.args.moves.now c.loop-first.first c.block_end-end.result c.args.rows.now c.loop-first.rows c.run_block.new.rows c.loop-first.invariant.0 turned, c.run_block.ensures.rows_ok)

pub returns : goal.returns
returns c = rows_end c.args.job.now.fields c.args.moves.now c.loop-first.first c.args.rows.now c.loop-first.rows c.loop-first-test.false c.loop-first.invariant.0
