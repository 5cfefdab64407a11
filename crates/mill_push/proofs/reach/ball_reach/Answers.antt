use Rattle.std.proofs.Common.{arith}
use Rattle.mill_push.proofs.Reaching.{ball_root}
use Rattle.mill_push.proofs.reach.ball_reach.Goals as goal

pub returns : goal.returns
returns c =
    let reaches = rw (c.from.ensures, c.from-2.ensures) at c.ceil_root.ensures.reaches in
    let least = rw (c.from.ensures, c.from-2.ensures) at c.ceil_root.ensures.least in
    ball_root c.args.radius c.args.height c.ceil_root.result c.requires.some (omega (arith, c.if-height-radius.false)) reaches least
