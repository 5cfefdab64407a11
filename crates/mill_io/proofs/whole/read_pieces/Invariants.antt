use Rattle.std.proofs.Common.{length, ◌-◌, ◌+◌, ◌≡◌, ◌≤◌, take, ℕ, List, Option}
use Rattle.std.specs.Prelude.{IfSome}
use Rattle.mill_io.specs.Readings.{AreHeld}
use Rattle.mill_io.specs.Views.{ReadsOnly}
use Rattle.mill_io.proofs.whole.read_pieces.Given as goal

abbrev pub invariant-loop-shelf : goal.invariant-loop-shelf
invariant-loop-shelf g l =
    ReadsOnly (g.S.Shelf.shows l.initial.shelf) (g.S.Shelf.shows l.shelf)
    × ((contents : List ℕ → Option (List ℕ)) → AreHeld contents (g.S.Shelf.shows l.initial.shelf).log (g.S.Shelf.shows l.shelf).log
    → IfSome (contents l.name) (λ bytes. l.all.items ≡ take (length l.all.items) bytes))
    × AreHeld (g.S.Shelf.shows l.initial.shelf).contents (g.S.Shelf.shows l.initial.shelf).log (g.S.Shelf.shows l.shelf).log
    × ((g.S.Shelf.shows l.shelf).read_faults ≡ (g.S.Shelf.shows l.initial.shelf).read_faults)
    × (length (g.S.Shelf.shows l.shelf).log ≤ length (g.S.Shelf.shows l.initial.shelf).log + length l.all.items)
    × (length (g.S.Shelf.shows l.shelf).log ≤ length (g.S.Shelf.shows l.initial.shelf).log + l.limit + 1)

abbrev pub decreases-loop-shelf : goal.decreases-loop-shelf
decreases-loop-shelf g l = l.limit + 1 - length l.all.items
