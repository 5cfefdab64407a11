use Rattle.std.proofs.Common.{rules, w32, arith}
use Rattle.std.proofs.lemmas.Int.{ints, to_z-of_z}
use lib.IntN.{pos, ◌+ℤ◌}
use Rattle.mill_push.proofs.probe.Left.nearest.Goals as goal

pub returns-clause-after : goal.returns-clause-after
returns-clause-after c =
    let held = to_z-of_z w32 c.args.self.held (search rules) in
    let next = to_z-of_z w32 (c.args.self.held +ℤ pos 1) (search rules) in
    let lower = rw (held, next) at c.clamp.ensures.lower_bound in
    rw (to_z-of_z w32 c.clamp.result (search rules)) (omega (lower, arith, ints))
