use Rattle.std.proofs.Common.{◌≡◌, ◌++◌, drop, map}
use Rattle.mill_sched.specs.States.{tasks_given, untouched}
use Rattle.mill_sched.proofs.state.untouched.Given as goal

abbrev pub invariant-loop-i : goal.invariant-loop-i
invariant-loop-i l = l.pieces.items ++ map untouched (tasks_given (drop l.i l.spans) (drop l.i l.fails)) ≡ map untouched (tasks_given l.spans l.fails)
