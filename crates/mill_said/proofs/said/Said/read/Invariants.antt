use Rattle.std.proofs.Common.{◌≡◌, ◌≤◌, drop, length}
use Rattle.mill_said.specs.Said.{said_from, nothing_said}
use Rattle.mill_said.specs.Bounds.{FitsSaid}
use Rattle.mill_said.proofs.said.Said.read.Given as goal

abbrev pub invariant-loop-word : goal.invariant-loop-word
invariant-loop-word l = record {
  so_far : said_from l.line l.positioned l.self (drop l.word-index l.word-items) ≡ said_from l.line l.positioned nothing_said l.word-items;
  fits : FitsSaid l.self;
  few : length l.self.groups ≤ l.word-index;
}
