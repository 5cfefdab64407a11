use Rattle.std.proofs.Common.{append_assoc, w32, rules}
use Rattle.std.specs.Prelude.{FitsSigned}
use Rattle.std.proofs.lemmas.Int.{to_z-of_z}
use Rattle.mill_ngc.specs.Writing.{move_line}
use Rattle.mill_ngc.proofs.line.add_move.Goals as goal

pub returns : goal.returns
unfolding move_line
returns c =
    let x_fits : FitsSigned w32 c.args.made.to.x = search rules in
    let y_fits : FitsSigned w32 c.args.made.to.y = search rules in
    let z_fits : FitsSigned w32 c.args.made.to.z = search rules in
    rw (c.in_ok-push.ensures.items, c.in_ok-add_axis-3.ensures, c.in_ok-add_axis-2.ensures, c.in_ok-add_axis.ensures, c.in_ok-add_text.ensures, c.motion_word.ensures) (simp (append_assoc, to_z-of_z))
