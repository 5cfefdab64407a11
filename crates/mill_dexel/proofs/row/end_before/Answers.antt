use Rattle.std.proofs.Common.{◌-◌, ◌<◌, length, ap, arith}
use Rattle.std.specs.Prelude.{Some}
use Rattle.mill_base.specs.declared.motion.Move.{Move}
use Rattle.mill_dexel.proofs.RunLaws.{move_read}
use Rattle.mill_dexel.proofs.row.end_before.Goals as goal

pub returns-clause-later : goal.returns-clause-later
returns-clause-later c = λ some.
    let there : c.args.t - 1 < length c.args.moves.now = omega (arith, c.requires, some) in
    ap (λ (m : Move). Some m.to) (move_read c.args.moves.now (c.args.t - 1) _ there)
