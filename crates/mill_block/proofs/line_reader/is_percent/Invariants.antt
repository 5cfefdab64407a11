use Rattle.std.proofs.Common.{◌≡◌, drop}
use Rattle.mill_block.specs.Lines.{is_percent}
use Rattle.mill_block.proofs.PercentLemmas.{is_percent_from}
use Rattle.mill_block.proofs.line_reader.is_percent.Given as goal

abbrev pub invariant-loop-byte : goal.invariant-loop-byte
invariant-loop-byte l = is_percent_from l.seen (drop l.byte-index l.line) ≡ is_percent l.line
