use Rattle.mill_ngc.proofs.WalkLemmas.{in_any_case, line_and_feed}
use Rattle.mill_ngc.proofs.walk.read_line.Goals as goal

pub returns-clause-read : goal.returns-clause-read
returns-clause-read c =
    in_any_case _ c.note_place.result
    (line_and_feed (c.args.walk.now.reader, c.args.walk.now.moves.items) (c.read_piece.new.reader, c.read_piece.new.moves.items) (c.read_piece-2.new.reader, c.read_piece-2.new.moves.items) c.args.line.now
    c.in_ok-read_piece.ensures.read c.in_ok-read_piece-2.ensures.read)
