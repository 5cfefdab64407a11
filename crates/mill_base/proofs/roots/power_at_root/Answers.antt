use Rattle.std.proofs.Common.{◌<◌, ◌≤◌, ℕ, arith}
use Rattle.mill_base.proofs.RootLemmas.{square_at_half, square_over_half}
use Rattle.mill_base.proofs.roots.power_at_root.Goals as goal

from_below : (s p n : ℕ) → s ≤ p → p ≤ n → s ≤ n
from_below s p n h k = omega (arith)

from_above : (s p n : ℕ) → p ≤ s → n < p → n < s
from_above s p n h k = omega (arith)

pub returns-clause-below : goal.returns-clause-below
returns-clause-below c = rw c.power_of_two.ensures (from_below _ _ _ (square_at_half c.ilog2.result) c.ilog2.ensures.power_le)

pub returns-clause-above : goal.returns-clause-above
returns-clause-above c = rw c.power_of_two.ensures (from_above _ _ _ (square_over_half c.ilog2.result) c.ilog2.ensures.next_power_gt)
