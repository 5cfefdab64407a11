use Rattle.mill_dexel.specs.Bands.{AreBandsTo}
use Rattle.mill_dexel.proofs.bands.bands_of.Given as goal

abbrev pub invariant-loop-i : goal.invariant-loop-i
invariant-loop-i l = AreBandsTo l.moves l.count l.i l.bands.items
