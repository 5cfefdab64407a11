use Rattle.std.proofs.Common.{◌≡◌, drop}
use Rattle.mill_said.specs.MachineTakes.{first_p}
use Rattle.mill_said.proofs.machine_takes.first_p.Given as goal

abbrev pub invariant-loop-word : goal.invariant-loop-word
invariant-loop-word l = first_p (drop l.word-index l.words) ≡ first_p l.words
