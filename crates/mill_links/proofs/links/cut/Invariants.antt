use Rattle.std.specs.Prelude.{List, ◌++◌, take, All}
use Rattle.mill_base.specs.declared.motion.Move.{Move}
use Rattle.mill_dexel.specs.Rows.{IsRowOf}
use Rattle.mill_dexel.specs.Stocks.{IsStock}
use Rattle.mill_links.proofs.links.cut.Given as goal

abbrev pub invariant-loop-step : goal.invariant-loop-step
invariant-loop-step l = record {
  stock : (done : List Move) → IsStock l.job.fields done l.fn.rows → IsStock l.job.fields (done ++ take l.step-index l.moves) l.rows;
  rows_ok : All (IsRowOf l.job.fields) l.rows;
}
