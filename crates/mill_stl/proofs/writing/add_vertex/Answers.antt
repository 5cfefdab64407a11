use Rattle.std.proofs.Common.{append_assoc, w32, rules}
use Rattle.std.specs.Prelude.{FitsSigned}
use Rattle.std.proofs.lemmas.Int.{to_z-of_z}
use Rattle.mill_stl.specs.Written.{vertex_line}
use Rattle.mill_stl.proofs.writing.add_vertex.Goals as goal

pub returns : goal.returns
unfolding vertex_line
returns c =
    let x_fits : FitsSigned w32 c.args.corner.x = search rules in
    let y_fits : FitsSigned w32 c.args.corner.y = search rules in
    let z_fits : FitsSigned w32 c.args.corner.z = search rules in
    rw (c.in_ok-push.ensures.items, c.in_ok-add_coordinate-3.ensures, c.in_ok-add_coordinate-2.ensures, c.in_ok-add_coordinate.ensures, c.in_ok-add_text.ensures) (simp (append_assoc, to_z-of_z))
