use Rattle.std.proofs.Common.{◌-◌}
use Rattle.mill_gouge.proofs.Bisecting.{IsBetween}
use Rattle.mill_gouge.proofs.bisect.least_up_to.Given as goal

abbrev pub invariant-loop-short : goal.invariant-loop-short
invariant-loop-short l = IsBetween l.tool l.part l.step l.enough l.short l.least

abbrev pub decreases-loop-short : goal.decreases-loop-short
decreases-loop-short l = l.least - l.short
