use Rattle.mill_verify.specs.Clashes.{IsClash, IsClear}
use Rattle.mill_verify.proofs.ReadLemmas.{at_move}
use Rattle.mill_verify.proofs.Scanning.{inside, stops_at}
use Rattle.mill_verify.proofs.block.Block.turn.Goals as goal

pub returns-clause-clears : goal.returns-clause-clears
returns-clause-clears c = λ passed. at_move (λ m. IsClear c.args.job.now.fields c.args.part.now m) c.args.moves.now c.args.t _ (inside c.requires.there c.requires.within) c.in_default.ensures

pub returns-in-Some-clause-stopped : goal.returns-in-Some-clause-stopped
returns-in-Some-clause-stopped c = λ failed.
    stops_at c.args.job.now.fields c.args.part.now c.args.moves.now c.args.self.now _ c.args.t c.in-Some.clash c.self.view_is c.requires.next
    (at_move (λ m. IsClash c.args.job.now.fields c.args.part.now m c.in-Some.clash) c.args.moves.now c.args.t _ (inside c.requires.there c.requires.within) c.in-Some.ensures)
