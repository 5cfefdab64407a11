use Rattle.std.proofs.Common.{◌≡◌, ◌+◌, ◌-◌, true}
use Rattle.std.specs.List.{list_all, range_with_len}
use Rattle.mill_drop.specs.Paths.{is_kept_at}
use Rattle.mill_drop.proofs.places.goes_straight.Given as goal

abbrev pub invariant-loop-k : goal.invariant-loop-k
invariant-loop-k l = list_all (is_kept_at l.heights l.tol l.p l.q) (range_with_len (l.p + 1) (l.k - l.p - 1)) ≡ true
