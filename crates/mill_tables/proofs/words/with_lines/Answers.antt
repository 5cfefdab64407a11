use Rattle.std.proofs.Common.{refl}
use Rattle.mill_tables.proofs.words.with_lines.Goals as goal

pub returns : goal.returns
returns c =
    let made = c.in_ok-replace.ensures.ok in
    (made.0, _, refl, made.1)
