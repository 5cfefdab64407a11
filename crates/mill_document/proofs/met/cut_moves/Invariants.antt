use Rattle.std.specs.Prelude.{All, take}
use Rattle.mill_dexel.specs.Rows.{IsRowOf}
use Rattle.mill_dexel.specs.Stocks.{IsStock}
use Rattle.mill_document.proofs.met.cut_moves.Given as goal

abbrev pub invariant-loop-number : goal.invariant-loop-number
invariant-loop-number l = record {
  stock : IsStock l.job.fields (take l.number l.moves) l.rows;
  rows_ok : All (IsRowOf l.job.fields) l.rows;
}
