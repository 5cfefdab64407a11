use Rattle.std.proofs.Common.{◌≡◌, ◌-◌, ◌≤◌, length}
use Rattle.mill_words.specs.Plain.{digits_end}
use Rattle.mill_words.specs.inner.Places.{DigitsTo}
use Rattle.mill_words.proofs.plain.digits_at.Given as goal

abbrev pub invariant-loop-place : goal.invariant-loop-place
invariant-loop-place l = record {
  digits : DigitsTo l.line l.from l.place l.front l.value;
  end : digits_end l.line l.place ≡ digits_end l.line l.from;
  forward : l.from ≤ l.place;
  within : l.place ≤ length l.line;
}

abbrev pub decreases-loop-place : goal.decreases-loop-place
decreases-loop-place l = length l.line - l.place
