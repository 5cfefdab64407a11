use Rattle.std.specs.Prelude.{◌<◌, length, slice_index_or, pos}
use Rattle.mill_push.specs.Runs.{StandsIn}
use Rattle.mill_level.specs.inner.Fibers.{AreAdded, EndBefore, Tells}
use Rattle.mill_level.proofs.fiber.add_blocked.Given as goal

-- so many runs end before the next position
abbrev pub invariant-loop-position : goal.invariant-loop-position
invariant-loop-position l = record {
  added : AreAdded (Tells (StandsIn l.runs) l.positions) l.position-index l.fn.blocked.items l.blocked.items;
  known : l.position-index < length l.positions → EndBefore l.runs (slice_index_or l.positions l.position-index (pos 0)) l.before;
}
