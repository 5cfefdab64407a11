use Rattle.std.specs.Prelude.{◌≡◌}
use Rattle.mill_load.proofs.Bending.{bent_to}
use Rattle.mill_load.proofs.rapids.bend.Given as goal

abbrev pub invariant-loop-step : goal.invariant-loop-step
invariant-loop-step l = l.moves ≡ bent_to l.step-index l.fn.moves
