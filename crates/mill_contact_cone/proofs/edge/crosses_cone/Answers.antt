use Rattle.std.proofs.Common.{arith}
use Rattle.std.proofs.lemmas.Int.{ints}
use Rattle.mill_contact_cone.proofs.Stored.{z_kept}
use Rattle.mill_contact_cone.proofs.edge.crosses_cone.Goals as goal

pub passes_cone-requires-clause-p_up : goal.passes_cone-requires-clause-p_up
passes_cone-requires-clause-p_up c =
    let p_up = rw (z_kept c.args.p c.requires.p_ok) at c.if-p-lt0.false in
    omega (arith, ints)
