-- What is added to a list of chords.
use Rattle.std.specs.Prelude.{◌≡◌, Bool, true, false, List, ◌++◌, Option, Some, None}
use Rattle.mill_arc.specs.declared.chords.Chord.{Chord}

-- the list stands in front of the new one
pub record Grows (old new : List Chord) : Type 0 where
  pub more : List Chord
  pub is : new ≡ old ++ more

-- whether there were chords, and that they stand behind the list
abbrev pub AddsChords : List Chord → List Chord → Bool → Option (List Chord) → Type 0
AddsChords old new whole None = whole ≡ false
AddsChords old new whole (Some cs) = (whole ≡ true) × (new ≡ old ++ cs)
