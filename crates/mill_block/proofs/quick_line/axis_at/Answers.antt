use Rattle.std.proofs.Common.{◌≡◌, get_or, rules, w32}
use Rattle.std.proofs.lemmas.Int.{to_z-of_z}
use mir.Val.{SFits}
use Rattle.mill_block.proofs.quick_line.axis_at.Goals as goal

pub returns-clause-read : goal.returns-clause-read
returns-clause-read c =
    let letter : get_or c.args.line.now c.args.place 0 ≡ c.args.letter = search rules in
    let fits : SFits w32 c.in_ok-units.units = search rules in
    record {
      num = c.in_ok-coordinate.coordinate.num;
      letter_is = letter;
      word = c.in_ok-coordinate.ensures.word;
      units_are = rw (to_z-of_z w32 c.in_ok-units.units fits) c.in_ok-units.ensures;
    }
