use Rattle.mill_board.specs.Seats.{IsFree}
use Rattle.mill_board.proofs.board.Board.serve.Given as goal

abbrev pub invariant-loop : goal.invariant-loop
invariant-loop g l = IsFree l.self l.seat
