use Rattle.std.specs.Prelude.{ℕ, ◌^◌, ◌<◌, nat_abs}
use lib.IntN.{◌-ℤ◌}
use Rattle.mill_push.specs.inner.Probes.{IsLeft}
use Rattle.mill_push.proofs.Halving.{IsPaid}
use Rattle.mill_push.proofs.stretch.Pusher.halved.Given as goal

abbrev pub invariant-loop-left : goal.invariant-loop-left
invariant-loop-left g l = record {
  left : IsLeft l.fn.self.cutter l.fn.tri l.fn.self.fiber l.fn.search l.left;
  cost : (n : ℕ) → nat_abs (l.fn.rest.free -ℤ l.fn.rest.held) < 2 ^ n → IsPaid 1 (nat_abs (l.left.free -ℤ l.left.held)) l.fn.steps l.steps n;
}

abbrev pub decreases-loop-left : goal.decreases-loop-left
decreases-loop-left g l = nat_abs (l.left.free -ℤ l.left.held)
