use Rattle.std.proofs.Common.{rules, Err}
use Rattle.std.specs.Prelude.{◌≢◌}
use Rattle.mill_said.specs.declared.fault.NgcFault.TheVariants.{WantOfMemory}
use Rattle.mill_load.proofs.Programs.{taken_more}
use Rattle.mill_load.proofs.program.take_piece.Goals as goal

pub returns-in-Ok : goal.returns-in-Ok
returns-in-Ok c = λ start unit asked text taken.
    taken_more start unit asked c.args.reader.now c.feed.new.self c.args.moves.now.items c.feed.new.out.items text c.args.piece.now taken
    (c.feed.ensures.fed (λ e. absurd cc)) c.feed.ensures.lines (c.feed.ensures.moves start unit asked taken.moves_ok)

pub returns-in-Err : goal.returns-in-Err
returns-in-Err c =
    let told : (c.feed.result ≢ Err WantOfMemory) = search rules in
    λ start unit asked text taken.
    taken_more start unit asked c.args.reader.now c.feed.new.self c.args.moves.now.items c.feed.new.out.items text c.args.piece.now taken
    (c.feed.ensures.fed told) c.feed.ensures.lines (c.feed.ensures.moves start unit asked taken.moves_ok)
