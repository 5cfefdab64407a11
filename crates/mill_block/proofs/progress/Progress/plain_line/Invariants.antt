use Rattle.std.proofs.Common.{◌-◌, ◌≤◌, length}
use Rattle.mill_block.specs.Lines.{line_begun}
use Rattle.mill_block.specs.inner.PlainMoves.{ReadTo}
use Rattle.mill_block.proofs.progress.Progress.plain_line.Given as goal

abbrev pub invariant-loop-place : goal.invariant-loop-place
invariant-loop-place l = record {
  to : ReadTo (line_begun l.self) l.line l.place l.plain;
  within : l.place ≤ length l.line;
}

abbrev pub decreases-loop-place : goal.decreases-loop-place
decreases-loop-place l = length l.line - l.place
