use Rattle.mill_ngc.proofs.ProgramLemmas.{so_far-first}
use Rattle.mill_ngc.proofs.reader.Reader.new.Goals as goal

pub returns-clause-moves : goal.returns-clause-moves
returns-clause-moves c = rw c.new.ensures.lines (so_far-first c.args.start c.args.unit c.args.rules c.requires)
