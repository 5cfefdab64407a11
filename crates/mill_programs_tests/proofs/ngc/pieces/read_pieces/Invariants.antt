use Rattle.std.proofs.Common.{◌<◌, ◌+◌, ◌^◌, length}
use Rattle.mill_ngc.specs.Pieces.{lines_read}
use Rattle.mill_programs_tests.proofs.ngc.pieces.read_pieces.Given as goal

abbrev pub invariant-loop-rest : goal.invariant-loop-rest
invariant-loop-rest g l = lines_read l.reader + length l.rest < 2 ^ 63

abbrev pub decreases-loop-rest : goal.decreases-loop-rest
decreases-loop-rest g l = length l.rest
