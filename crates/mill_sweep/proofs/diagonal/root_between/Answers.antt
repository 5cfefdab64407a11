use Rattle.std.proofs.Common.{◌≡◌, ℕ, ◌+◌, ◌-◌, ◌*◌, ◌/◌, ◌<◌, ◌≤◌, subst, arith}
use Rattle.std.proofs.Math.Nat.{mul-le-mul}
use Rattle.mill_sweep.specs.Widths.{longest}
use Rattle.mill_sweep.proofs.diagonal.root_between.Goals as goal

pub overflow_mul-middle : goal.overflow_mul-middle
overflow_mul-middle c =
    let small : (c.loop-low.low + c.loop-low.high) / 2 ≤ 2 * longest = let under = c.loop-low.invariant.3 in let most = c.requires.bound in omega arith in
    let square : ((c.loop-low.low + c.loop-low.high) / 2) * ((c.loop-low.low + c.loop-low.high) / 2) ≤ 2 * longest * (2 * longest) = mul-le-mul small small in
    omega arith

pub returns-clause-least : goal.returns-clause-least
returns-clause-least c =
    let e : c.loop-low.low ≡ c.loop-low.high - 1 = omega arith in
    subst (λ (n : ℕ). n * n < c.args.square) e c.loop-low.invariant.0
