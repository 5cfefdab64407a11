use Rattle.std.proofs.Common.{◌≡◌, ◌-◌, ◌≤◌, ◌<◌, length, get_or, true}
use Rattle.std.specs.Char.{is_ascii_alphabetic}
use Rattle.mill_words.specs.declared.marks.Region.TheVariants.{Outside}
use Rattle.mill_words.specs.declared.stage.Stage.TheVariants.{Between}
use Rattle.mill_words.specs.inner.Places.{rest_of}
use Rattle.mill_words.proofs.plain.take_plain_words.Given as goal

abbrev pub invariant-loop-place : goal.invariant-loop-place
invariant-loop-place l = record {
  same : rest_of Outside Between l.words l.line l.place ≡ rest_of Outside Between l.initial.words l.line l.from;
  forward : l.from ≤ l.place;
  within : l.place ≤ length l.line;
  letter : l.place < length l.line → is_ascii_alphabetic (get_or l.line l.place 0) ≡ true;
}

abbrev pub decreases-loop-place : goal.decreases-loop-place
decreases-loop-place l = length l.line - l.place
