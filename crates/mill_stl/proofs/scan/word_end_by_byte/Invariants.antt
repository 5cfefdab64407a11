use Rattle.std.proofs.Common.{◌≡◌, ℕ, ◌≤◌, ◌<◌, get_or, false}
use Rattle.mill_stl.specs.Parts.{is_space}
use Rattle.mill_stl.proofs.scan.word_end_by_byte.Given as goal

abbrev pub invariant-loop-place : goal.invariant-loop-place
invariant-loop-place l = (k : ℕ) → l.from ≤ k → k < l.place → is_space (get_or l.text k 0) ≡ false
