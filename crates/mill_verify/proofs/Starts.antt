-- The rows of a stock from which a program starts are the job's.
use Rattle.std.specs.Prelude.{List}
use Rattle.mill_base.specs.declared.motion.Move.{Move}
use Rattle.mill_job.specs.declared.fields.JobFields.{JobFields}
use Rattle.mill_job.specs.Jobs.{IsJob}
use Rattle.mill_dexel.specs.Rows.{RowState}
use Rattle.mill_dexel.specs.Stocks.{IsStockOf, ShowsStock, shown_by}
use Rattle.mill_dexel.specs.Tops.{Stock, stock_after, uncut}
use Rattle.mill_dexel.proofs.SameStocks.{same_back, same_of_job, shown_same, shows_shown}
use Rattle.mill_dexel.proofs.TopLaws.{stock_stays, uncut_stays}
use Rattle.mill_verify.specs.inner.Readiness.{AreJobRows}

-- rows that show a stock of the job are the job's
pub shown_rows : (job : JobFields) (stock : Stock) (rows : List RowState) → IsStockOf job stock → ShowsStock job stock rows → AreJobRows job rows
shown_rows job stock rows of_job shows = record {
  shows = shows_shown job stock rows shows;
  tops_ok = same_of_job job stock (shown_by rows) (same_back job (shown_by rows) stock (shown_same job stock rows shows)) of_job;
}

-- so are those that moves leave of the uncut stock
pub job_rows : (job : JobFields) (moves : List Move) (rows : List RowState) → IsJob job → ShowsStock job (stock_after job (uncut job) moves) rows → AreJobRows job rows
job_rows job moves rows ok shows = shown_rows job (stock_after job (uncut job) moves) rows (stock_stays job (uncut job) moves (uncut_stays job ok.stock)) shows
