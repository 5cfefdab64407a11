use Rattle.std.proofs.Common.{◌≡◌, ℕ, ◌<◌, get_or, eqb, false}
use Rattle.mill_ngc.proofs.lines.line_length_by_byte.Given as goal

abbrev pub invariant-loop-place : goal.invariant-loop-place
invariant-loop-place l = (k : ℕ) → k < l.place → eqb (get_or l.text k 0) 10 ≡ false
