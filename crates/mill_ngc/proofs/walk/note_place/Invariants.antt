use Rattle.std.proofs.Common.{◌≡◌, ◌≤◌, ◌-◌, ◌++◌, length}
use Rattle.std.specs.Prelude.{replicate}
use Rattle.mill_ngc.proofs.walk.note_place.Given as goal

abbrev pub invariant-loop-place : goal.invariant-loop-place
invariant-loop-place l = record {
  few : length l.places.items ≤ l.count;
  more : length l.initial.places.items ≤ length l.places.items;
  are : l.places.items ≡ l.initial.places.items ++ replicate (length l.places.items - length l.initial.places.items) l.place;
}

abbrev pub decreases-loop-place : goal.decreases-loop-place
decreases-loop-place l = l.count - length l.places.items
