use Rattle.std.proofs.Common.{length, ◌-◌, ◌≡◌, ◌<◌}
use Rattle.std.specs.Prelude.{None}
use Rattle.mill_base.specs.declared.limits.TheConstants.{MAX_FILE_BYTES}
use Rattle.mill_io.specs.Readings.{AreHeld}
use Rattle.mill_io.specs.Views.{ReadsOnly}
use Rattle.mill_load.specs.inner.Steps.{TakesFront}
use Rattle.mill_load.proofs.program.take_pieces.Given as goal

abbrev pub invariant-loop-reader : goal.invariant-loop-reader
invariant-loop-reader g l = record {
  going : l.pieces.end ≡ None;
  name : l.pieces.name.now ≡ l.initial.pieces.name.now;
  limit : l.pieces.limit ≡ MAX_FILE_BYTES;
  same : l.pieces.shelf.ghost_name ≡ l.initial.pieces.shelf.ghost_name;
  room : 0 < length l.buf;
  only : ReadsOnly (g.S.Shelf.shows l.initial.pieces.shelf.now) (g.S.Shelf.shows l.pieces.shelf.now);
  faults : (g.S.Shelf.shows l.pieces.shelf.now).read_faults ≡ (g.S.Shelf.shows l.initial.pieces.shelf.now).read_faults;
  held : AreHeld (g.S.Shelf.shows l.initial.pieces.shelf.now).contents (g.S.Shelf.shows l.initial.pieces.shelf.now).log (g.S.Shelf.shows l.pieces.shelf.now).log;
  front : TakesFront l.fn.start l.fn.unit l.fn.rules l.initial.pieces.name.now (g.S.Shelf.shows l.initial.pieces.shelf.now).log (g.S.Shelf.shows l.pieces.shelf.now).log l.pieces.given l.reader l.moves.items;
}

abbrev pub decreases-loop-reader : goal.decreases-loop-reader
decreases-loop-reader g l = MAX_FILE_BYTES - l.pieces.given
