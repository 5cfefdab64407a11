use Rattle.std.proofs.Common.{◌-◌}
use Rattle.mill_arc.specs.declared.chords.TheConstants.{MAX_HALVINGS}
use Rattle.mill_arc.proofs.chords.+add_chords.Given as goal

abbrev pub decreases-add_chords : goal.decreases-add_chords
decreases-add_chords l = MAX_HALVINGS - l.depth
