use Rattle.std.proofs.Common.{◌-◌}
use Rattle.mill_drop.proofs.places.+add_places.Given as goal

abbrev pub decreases-add_places : goal.decreases-add_places
decreases-add_places l = l.q - l.p
