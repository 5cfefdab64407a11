use Rattle.std.proofs.Common.{◌≡◌, ◌≤◌, drop, length}
use Rattle.mill_said.specs.MachineSaid.{told_from, nothing_told}
use Rattle.mill_said.specs.Bounds.{FitsTold}
use Rattle.mill_said.proofs.machine_said.MachineSaid.take_words.Given as goal

abbrev pub invariant-loop-word : goal.invariant-loop-word
invariant-loop-word l = record {
  so_far : told_from l.before l.takes l.self (drop l.word-index l.words) ≡ told_from l.before l.takes nothing_told l.words;
  fits : FitsTold l.self;
  few : length l.self.groups ≤ l.word-index;
}
