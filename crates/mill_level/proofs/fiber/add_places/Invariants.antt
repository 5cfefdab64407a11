use Rattle.std.specs.Prelude.{◌≡◌, ◌-◌, slice_index_or, pos}
use Rattle.mill_push.specs.Runs.{StandsIn}
use Rattle.mill_level.specs.inner.Fibers.{AreAdded, IsSpot, Places}
use Rattle.mill_level.proofs.fiber.add_places.Given as goal

abbrev pub invariant-loop-at : goal.invariant-loop-at
invariant-loop-at l = record {
  added : AreAdded (Places (StandsIn l.runs) l.positions) (l.at - 1) l.fn.places.items l.places.items;
  position : l.low.position ≡ slice_index_or l.positions (l.at - 1) (pos 0);
  spot : IsSpot l.runs l.low;
}
