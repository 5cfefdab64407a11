use Rattle.std.proofs.Common.{◌≡◌, true, get_or, refl}
use Rattle.mill_words.specs.Marks.{is_blank}
use Rattle.mill_words.proofs.Places.{blank-at}
use Rattle.mill_words.proofs.decimals.behind_space.Goals as goal

pub returns-then-has_byte-clause-same : goal.returns-then-has_byte-clause-same
returns-then-has_byte-clause-same c s l =
    let blank : is_blank (get_or c.args.line.now c.args.place 0) ≡ true = rw (c.if-has_byte.ensures.byte refl) refl in
    blank-at s l c.args.line.now c.args.place (c.if-has_byte.ensures.within refl) blank
