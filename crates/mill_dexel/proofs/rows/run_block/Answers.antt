use Rattle.std.proofs.Common.{arith}
use Rattle.mill_dexel.proofs.Chunks.{turned_all, rows_stay_up_to}
use Rattle.mill_dexel.proofs.rows.run_block.Goals as goal

pub returns : goal.returns
returns c =
    let turned = turned_all c.args.job.now.fields c.args.moves.now c.args.band.now.«end» c.loop-row.row-index c.args.rows.now c.loop-row.rows (omega (arith, c.loop-row.invariant.count)) c.loop-row.invariant in
    record {
      turned = turned;
      rows_ok = rows_stay_up_to c.args.job.now.fields c.args.moves.now c.args.band.now.«end» c.args.rows.now c.loop-row.rows c.requires.rows_ok turned;
    }
