use Rattle.mill_ngc.proofs.TextProgram.{program_is_rounded}
use Rattle.mill_ngc.proofs.laws.program_is_rounded.Goals as goal

pub returns : goal.returns
returns c = program_is_rounded
