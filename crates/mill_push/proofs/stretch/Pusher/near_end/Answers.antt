use Rattle.std.proofs.Common.{rules, w32, arith}
use Rattle.std.proofs.lemmas.Int.{to_z-of_z}
use Rattle.mill_push.proofs.Probing.{left_starts}
use Rattle.mill_push.proofs.stretch.Pusher.near_end.Goals as goal

pub loop-init : goal.loop-init
loop-init g c = record {
  left = rw (to_z-of_z w32 c.args.search.limit (search rules)) (left_starts c.args.self.cutter c.args.tri.now c.args.self.fiber c.args.search c.requires.search_ok c.requires.held);
  cost = omega arith;
}

pub returns-then-is_none-clause-left : goal.returns-then-is_none-clause-left
returns-then-is_none-clause-left g c = rw (to_z-of_z w32 c.args.search.limit (search rules)) (left_starts c.args.self.cutter c.args.tri.now c.args.self.fiber c.args.search c.requires.search_ok c.requires.held)
