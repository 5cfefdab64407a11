use Rattle.std.proofs.Common.{◌%◌, eq-eqb, sym}
use Rattle.std.proofs.lemmas.Bool.{ne_eqb}
use Rattle.mill_paths.proofs.ZigzagLemmas.{even_number, odd_number}
use Rattle.mill_paths.proofs.zigzag.node_number.Goals as goal

pub returns-then-row-eq0 : goal.returns-then-row-eq0
returns-then-row-eq0 c = sym (even_number c.args.columns c.args.row c.args.place (eq-eqb (c.args.row % 2) 0 c.if-row-eq0.true) c.requires.place_ok)

pub returns-else-row-eq0 : goal.returns-else-row-eq0
returns-else-row-eq0 c = sym (odd_number c.args.columns c.args.row c.args.place (ne_eqb (c.args.row % 2) 0 c.if-row-eq0.false) c.requires.place_ok)
