-- Which move's lift is told of a finding.
use Rattle.std.specs.Prelude.{ℕ, Option, None, Some}
use Rattle.mill_verify.specs.declared.verdict.Reason.{Reason}
use Rattle.mill_verify.specs.declared.verdict.Reason.TheVariants.{Gouge, Holder}

-- the number of the finding's move, where it fails against the part
abbrev pub lifted_move : Reason → Option ℕ
lifted_move (Gouge k t leaf) = Some k
lifted_move (Holder k t leaf) = Some k
lifted_move reason = None
