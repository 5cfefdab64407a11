use Rattle.std.proofs.Common.{ℕ, ◌<◌, List, length, refl, subst, sym}
use Rattle.std.specs.Prelude.{IfSome}
use Rattle.mill_load.proofs.Reading.{whole_long}
use Rattle.mill_io.specs.Readings.{LastFails}
use Rattle.mill_load.proofs.load.read_file.Goals as goal

pub returns-in-Ok-clause-told : goal.returns-in-Ok-clause-told
returns-in-Ok-clause-told g c = λ contents held. (c.in-Ok.ensures.whole contents held).0

pub returns-in-Ok-clause-fits : goal.returns-in-Ok-clause-fits
returns-in-Ok-clause-fits g c = rw c.most_bytes_of.ensures at (c.in-Ok.ensures.whole (g.S.Shelf.shows c.args.shelf.now).contents c.read_whole.ensures.held).1

pub returns-in-Err-ReadFault-clause-failed : goal.returns-in-Err-ReadFault-clause-failed
returns-in-Err-ReadFault-clause-failed g c = λ names same.
    subst (λ (name : List ℕ). LastFails name (g.S.Shelf.shows c.read_whole.new.shelf).log) (sym same) (c.read_whole.ensures.failed cc)

pub returns-in-Err-TooLong-clause-told : goal.returns-in-Err-TooLong-clause-told
returns-in-Err-TooLong-clause-told g c = λ contents held.
    let long = whole_long (contents c.args.name.now) _ c.read_whole.result (cc) (c.read_whole.ensures.whole contents held) in
    (refl, subst (λ (most : ℕ). IfSome (contents c.args.name.now) (λ text. most < length text)) c.most_bytes_of.ensures long)
