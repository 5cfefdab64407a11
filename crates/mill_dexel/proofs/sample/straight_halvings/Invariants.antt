use Rattle.std.proofs.Common.{◌≡◌, ◌-◌, pos}
use Rattle.mill_base.specs.Numbers.{least_from}
use Rattle.mill_dexel.specs.Samples.{is_split, straight_split_of}
use Rattle.mill_dexel.proofs.sample.straight_halvings.Given as goal

abbrev pub invariant-loop-d : goal.invariant-loop-d
invariant-loop-d l = least_from (is_split (pos l.sample) l.step) (64 - l.d) l.d ≡ straight_split_of (pos l.sample) l.step
