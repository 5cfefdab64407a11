use Rattle.std.proofs.Common.{◌≡◌, ◌<◌, false, FitsSigned, rules, subst, arith, to_z}
use mir.Syntax.{w32}
use lib.IntN.{ℤ, pos, ◌+ℤ◌, ◌-ℤ◌, nat_abs}
use lib.Signed.{◌<ℤ◌, ◌≤ℤ◌, lt_z}
use Rattle.std.proofs.lemmas.Int.{ints, to_z-of_z, fits_signed_from_abs}
use Rattle.mill_drop.specs.inner.Solids.{TouchesAt}
use Rattle.mill_drop.specs.inner.Spindles.{IsTipHeight}
use Rattle.mill_drop.proofs.search.Spindle.least_free.Goals as goal

from_over : (a b c : ℤ) → a ≤ℤ b → b <ℤ c → a ≤ℤ c
from_over a b c h k = omega (arith, ints)

next : (low high : ℤ) → low <ℤ high → lt_z (low +ℤ pos 1) high ≡ false → low ≡ high -ℤ pos 1
next low high h test = omega (arith, ints)

next_fits : (start low high end : ℤ) → IsTipHeight start → IsTipHeight end → start ≤ℤ low → low <ℤ high → high ≤ℤ end → FitsSigned w32 (low +ℤ pos 1)
next_fits start low high end hs he from order to = fits_signed_from_abs w32 (low +ℤ pos 1) small
  where
    small : nat_abs (low +ℤ pos 1) < 2147483648
    small = let l = hs.least in let m = he.most in omega (arith, ints)

pub loop-low-preserved-then-holds_some : goal.loop-low-preserved-then-holds_some
loop-low-preserved-then-holds_some c =
    let i = c.loop-low.invariant in
    let fits : FitsSigned w32 c.between-tried.result = search rules in
    let stored = to_z-of_z w32 c.between-tried.result fits in
    record {
      held = c.holds_some.ensures.yes c.if-holds_some.true;
      free = i.free;
      order = rw stored c.between-tried.ensures.under;
      from = rw stored (from_over _ _ _ i.from c.between-tried.ensures.over);
      to = i.to;
    }

pub returns-clause-least : goal.returns-clause-least
returns-clause-least c =
    let i = c.loop-low.invariant in
    let fits = next_fits c.args.low (to_z w32 c.loop-low.low-bits) (to_z w32 c.loop-low.high-bits) c.args.top c.requires.bracket.low_ok c.requires.bracket.top_ok
    (rw (to_z-of_z w32 c.args.low c.ranges.low) at i.from) i.order (rw (to_z-of_z w32 c.args.top c.ranges.top) at i.to) in
    let test = rw (to_z-of_z w32 (to_z w32 c.loop-low.low-bits +ℤ pos 1) fits) at c.loop-low-test.false in
    subst (TouchesAt c.args.self.cutter c.args.tri.now c.args.self.x c.args.self.y) (next _ _ i.order test) i.held
