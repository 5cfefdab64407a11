-- What a note makes of the reads so far.
use Rattle.std.specs.Prelude.{List, ◌∷◌, Some, None}
use Rattle.mill_io.specs.Readings.{Reading}
use Rattle.mill_io.specs.declared.log.Note.{Note}
use Rattle.mill_io.specs.declared.log.Note.TheVariants.{Gave, Failed}

abbrev pub noted : List Reading → Note → List Reading
noted reads (Gave name from count buf) = (name.now, (from, Some (count, buf.now))) ∷ reads
noted reads (Failed name from) = (name.now, (from, None)) ∷ reads
