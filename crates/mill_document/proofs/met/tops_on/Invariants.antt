use Rattle.std.proofs.Common.{◌≡◌, ℕ, ◌<◌, ◌≤◌, length, get_or}
use Rattle.std.specs.Prelude.{All, map, take}
use Rattle.mill_document.specs.Details.{top_met}
use Rattle.mill_dexel.specs.Rows.{IsRowOf}
use Rattle.mill_dexel.specs.Stocks.{IsStock}
use Rattle.mill_report.specs.Findings.{move_of}
use Rattle.mill_verify.specs.declared.verdict.Reason.{Reason}
use Rattle.mill_document.proofs.met.tops_on.Given as goal

abbrev pub invariant-loop-index : goal.invariant-loop-index
invariant-loop-index l = record {
  stock : IsStock l.job.fields (take l.done l.moves) l.rows;
  rows_ok : All (IsRowOf l.job.fields) l.rows;
  inside : l.done ≤ length l.moves;
  ahead : (k : ℕ) (other : Reason) → l.index ≤ k → k < length l.found → l.done ≤ move_of (get_or l.found k other);
  tops : l.tops.items ≡ map (top_met l.job.fields l.moves) (take l.index l.found);
}
