use Rattle.std.proofs.Common.{arith, refl}
use Rattle.mill_sched.proofs.Members.{read_worker}
use Rattle.mill_sched.proofs.Events.{piece_there, lowers}
use Rattle.mill_sched.proofs.state.Core.lower.Goals as goal

pub index-piece-requires : goal.index-piece-requires
index-piece-requires c =
    let there = piece_there _ c.args.w _ _ c.self.invariant (read_worker c.args.w c.worker_of.ensures c.in-Holding.is c.deref.ensures.value) refl in
    omega (arith, there, c.self.inside.pieces.ok)

pub invariant_of-self : goal.invariant_of-self
invariant_of-self c =
    let room = piece_there _ c.args.w _ _ c.self.invariant (read_worker c.args.w c.worker_of.ensures c.in-Holding.is c.deref.ensures.value) refl in
    lowers _ _ _ _ c.self.invariant room c.index-piece.ensures c.if-not-piece.false c.min-self-inside.ensures
