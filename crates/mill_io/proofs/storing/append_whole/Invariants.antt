use Rattle.std.proofs.Common.{length, ◌-◌, ◌≡◌, ◌≤◌, take}
use Rattle.mill_io.specs.Contents.{Appended}
use Rattle.mill_io.specs.Views.{WritesOnly}
use Rattle.mill_io.proofs.storing.append_whole.Given as goal

abbrev pub invariant-loop-done : goal.invariant-loop-done
invariant-loop-done g l =
    (l.done ≤ length l.bytes)
    × Appended (take l.done l.bytes) ((g.S.Shelf.shows l.initial.shelf).contents l.name) ((g.S.Shelf.shows l.shelf).contents l.name)
    × WritesOnly l.name (g.S.Shelf.shows l.initial.shelf) (g.S.Shelf.shows l.shelf)
    × ((g.S.Shelf.shows l.shelf).write_faults ≡ (g.S.Shelf.shows l.initial.shelf).write_faults)
    × ((g.S.Shelf.shows l.shelf).log ≡ (g.S.Shelf.shows l.initial.shelf).log)

abbrev pub decreases-loop-done : goal.decreases-loop-done
decreases-loop-done g l = length l.bytes - l.done
