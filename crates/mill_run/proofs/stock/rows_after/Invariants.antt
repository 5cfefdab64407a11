use Rattle.std.specs.Prelude.{take, All}
use Rattle.mill_dexel.specs.Rows.{IsRowOf}
use Rattle.mill_dexel.specs.Stocks.{IsStock}
use Rattle.mill_run.proofs.stock.rows_after.Given as goal

abbrev pub invariant-loop-step : goal.invariant-loop-step
invariant-loop-step l = record {
  stock : IsStock l.job.fields (take l.step-index l.moves) l.rows.items;
  rows_ok : All (IsRowOf l.job.fields) l.rows.items;
}
