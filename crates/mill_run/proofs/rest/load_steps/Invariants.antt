use Rattle.std.proofs.Common.{ℕ, List, Option, take, ◌≡◌}
use Rattle.std.specs.Prelude.{All}
use Rattle.mill_io.specs.Readings.{AreHeld}
use Rattle.mill_io.specs.Views.{ReadsOnly}
use Rattle.mill_verify.specs.Files.{IsFileOf}
use Rattle.mill_run.specs.Rest.{ReadsSteps}
use Rattle.mill_run.proofs.rest.load_steps.Given as goal

-- the programs of the steps before this one are read
abbrev pub invariant-loop-number : goal.invariant-loop-number
invariant-loop-number g l = record {
  only : ReadsOnly (g.S.Shelf.shows l.initial.shelf) (g.S.Shelf.shows l.shelf);
  faults : (g.S.Shelf.shows l.shelf).read_faults ≡ (g.S.Shelf.shows l.initial.shelf).read_faults;
  held : AreHeld (g.S.Shelf.shows l.initial.shelf).contents (g.S.Shelf.shows l.initial.shelf).log (g.S.Shelf.shows l.shelf).log;
  read : (contents : List ℕ → Option (List ℕ)) → AreHeld contents (g.S.Shelf.shows l.initial.shelf).log (g.S.Shelf.shows l.shelf).log → ReadsSteps contents l.job.fields (take l.number l.steps) l.files.items;
  ready : All (IsFileOf l.job.fields) l.files.items;
}
