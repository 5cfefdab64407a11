use Rattle.std.proofs.Common.{w32, rules}
use Rattle.std.specs.Prelude.{FitsSigned, codes}
use Rattle.std.proofs.lemmas.Int.{to_z-of_z}
use Rattle.mill_ngc.specs.Writing.{across_line, axis_word, up_line}
use Rattle.mill_ngc.proofs.TextLemmas.{head_text, head_written}
use Rattle.mill_ngc.proofs.line.add_head.Goals as goal

pub returns : goal.returns
unfolding up_line across_line
returns c =
    let x_fits : FitsSigned w32 c.in-Some.place.x = search rules in
    let y_fits : FitsSigned w32 c.in-Some.place.y = search rules in
    let z_fits : FitsSigned w32 c.in-Some.place.z = search rules in
    rw (
      c.in_ok-push-2.ensures.items,
      c.in_ok-add_axis-3.ensures,
      c.in_ok-add_axis-2.ensures,
      c.in_ok-add_text-2.ensures,
      c.in_ok-push.ensures.items,
      c.in_ok-add_axis.ensures,
      c.in_ok-add_text.ensures,
      c.motion_word.ensures,
      c.motion_word-2.ensures,
      head_text c.args.unit c.args.begin c.in-Some.place c.in-Some.is,
    )
    (simp to_z-of_z
    (head_written c.args.text.now.items (codes "G0") (axis_word c.args.unit 90 c.in-Some.place.z) (axis_word c.args.unit 88 c.in-Some.place.x) (axis_word c.args.unit 89 c.in-Some.place.y)))
