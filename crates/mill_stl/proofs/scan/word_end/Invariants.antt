use Rattle.std.proofs.Common.{◌≡◌, ℕ, ◌-◌, ◌≤◌, ◌<◌, length, get_or, false}
use Rattle.mill_stl.specs.Parts.{is_space}
use Rattle.mill_stl.proofs.scan.word_end.Given as goal

abbrev pub invariant-loop-place : goal.invariant-loop-place
invariant-loop-place l = record {
  forward : l.from ≤ l.place;
  within : l.place ≤ length l.text;
  word : (k : ℕ) → l.from ≤ k → k < l.place → is_space (get_or l.text k 0) ≡ false;
}

abbrev pub decreases-loop-place : goal.decreases-loop-place
decreases-loop-place l = length l.text - l.place
