use Rattle.std.proofs.Common.{rules}
use Rattle.mill_ngc.proofs.ShownLemmas.{shown_so_far}
use Rattle.mill_ngc.proofs.reader.Reader.finish.Goals as goal

pub returns-clause-moves : goal.returns-clause-moves
returns-clause-moves c start unit asked so_far =
    c.finish.ensures.sound start unit asked
    (shown_so_far c.self.inside.fault c.self.inside.text c.args.self start unit asked c.args.out.now.items (search rules) (search rules) so_far)
