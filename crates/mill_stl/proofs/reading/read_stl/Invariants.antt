use Rattle.std.proofs.Common.{◌≡◌, ◌-◌, length}
use Rattle.mill_stl.specs.Parts.{part_of}
use Rattle.mill_stl.specs.inner.Bounds.{meaning_from, IsBeforeWord, IsSound}
use Rattle.mill_stl.proofs.reading.read_stl.Given as goal

abbrev pub invariant-loop-cursor : goal.invariant-loop-cursor
invariant-loop-cursor l = record {
  meaning : meaning_from l.snap l.unit l.text l.cursor l.progress l.tris.items ≡ part_of l.snap l.unit l.text;
  placed : IsBeforeWord l.text l.cursor;
  sound : IsSound l.unit l.progress l.tris.items;
}

abbrev pub decreases-loop-cursor : goal.decreases-loop-cursor
decreases-loop-cursor l = length l.text - l.cursor.from
