use Rattle.std.proofs.Common.{◌≡◌, true}
use Rattle.std.specs.List.{list_all}
use Rattle.std.specs.Prelude.{map, take}
use Rattle.mill_block.specs.MachineArcs.{chord_end}
use Rattle.mill_block.specs.MachineLines.{is_in_range}
use Rattle.mill_block.proofs.progress.Progress.are_in_range.Given as goal

abbrev pub invariant-loop-chord : goal.invariant-loop-chord
invariant-loop-chord l = list_all (λ c. is_in_range l.self.unit (chord_end l.self.machine.plane l.fn.sweep c)) (take l.chord-index l.chords) ≡ true
