use Rattle.mill_ngc.proofs.RealProgram.{program_is_foreseen}
use Rattle.mill_ngc.proofs.laws.program_is_foreseen.Goals as goal

pub returns : goal.returns
returns c = program_is_foreseen
