use Rattle.std.proofs.Common.{◌≡◌, ◌*◌, ◌≤◌, take}
use Rattle.mill_base.specs.declared.limits.TheConstants.{MAX_MOVES}
use Rattle.mill_verify.specs.Lists.{moves_in}
use Rattle.mill_verify.proofs.file.moves_of.Given as goal

abbrev pub invariant-loop-number : goal.invariant-loop-number
invariant-loop-number l = (l.moves ≡ moves_in (take l.number l.files)) × (l.moves ≤ l.number * MAX_MOVES)
