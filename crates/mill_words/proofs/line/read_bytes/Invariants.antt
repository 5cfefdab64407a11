use Rattle.std.proofs.Common.{◌≡◌, ◌-◌, ◌≤◌, length}
use Rattle.mill_words.specs.declared.marks.Region.TheVariants.{Outside}
use Rattle.mill_words.specs.inner.Bounds.{FitsStage}
use Rattle.mill_words.specs.inner.Places.{rest_of}
use Rattle.mill_words.proofs.line.read_bytes.Given as goal

abbrev pub invariant-loop-place : goal.invariant-loop-place
invariant-loop-place l = record {
  same : rest_of l.region l.stage l.words l.line l.place ≡ rest_of Outside l.fn.begun l.initial.words l.line l.from;
  within : l.place ≤ length l.line;
  fits : FitsStage (length l.words.words) l.stage;
}

abbrev pub decreases-loop-place : goal.decreases-loop-place
decreases-loop-place l = length l.line - l.place
