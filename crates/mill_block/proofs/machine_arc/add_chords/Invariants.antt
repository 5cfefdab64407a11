use Rattle.std.proofs.Common.{◌≡◌, ◌++◌}
use Rattle.std.specs.Prelude.{map, take}
use Rattle.mill_control.specs.Drilled.{ends_at}
use Rattle.mill_block.specs.MachineArcs.{chord_end, fed}
use Rattle.mill_block.proofs.machine_arc.add_chords.Given as goal

abbrev pub invariant-loop-chord : goal.invariant-loop-chord
invariant-loop-chord l = record {
  moves : l.out.items ≡ l.initial.out.items ++ fed l.fn.here (map (chord_end l.fn.plane l.fn.sweep) (take l.chord-index l.chords));
  at_is : l.at ≡ ends_at l.fn.here (fed l.fn.here (map (chord_end l.fn.plane l.fn.sweep) (take l.chord-index l.chords)));
}
