use Rattle.std.proofs.Common.{arith, refl}
use Rattle.mill_sched.proofs.Members.{read_worker}
use Rattle.mill_sched.proofs.Events.{piece_there, takes}
use Rattle.mill_sched.proofs.state.Core.take.Goals as goal

pub index_mut-requires-2 : goal.index_mut-requires-2
index_mut-requires-2 c =
    let there = piece_there _ c.args.w _ _ c.self.invariant (read_worker c.args.w c.worker_of.ensures c.in-Drawn.is c.deref.ensures.value) refl in
    omega (arith, there, c.self.inside.pieces.ok)

pub invariant_of-self : goal.invariant_of-self
invariant_of-self c = takes _ c.args.w _ _ c.self.invariant (read_worker c.args.w c.worker_of.ensures c.in-Drawn.is c.deref.ensures.value) c.index_mut-2.ensures.value
