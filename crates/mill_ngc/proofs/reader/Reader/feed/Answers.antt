use Rattle.std.proofs.Common.{refl, rules}
use Rattle.mill_ngc.proofs.PieceLemmas.{fed-kept, front-fed}
use Rattle.mill_ngc.proofs.ShownLemmas.{shown_so_far}
use Rattle.mill_ngc.proofs.reader.Reader.feed.Goals as goal

pub returns-in-Some-clause-fed : goal.returns-in-Some-clause-fed
returns-in-Some-clause-fed c =
    λ _. fed-kept c.self.inside.fault c.in-Some.fault c.self.inside.text c.args.self.now c.args.out.now.items c.args.piece.now c.in-Some.is (search rules)

pub returns-in-Some-clause-front : goal.returns-in-Some-clause-front
returns-in-Some-clause-front c = front-fed (c.args.self.now, c.args.out.now.items) c.args.piece.now _ refl

pub returns-in-Err-clause-moves : goal.returns-in-Err-clause-moves
returns-in-Err-clause-moves c start unit asked so_far =
    c.read_piece.ensures.sound start unit asked
    (shown_so_far c.self.inside.fault c.self.inside.text c.args.self.now start unit asked c.args.out.now.items (search rules) (search rules) so_far)
