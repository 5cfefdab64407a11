use Rattle.std.proofs.Common.{arith, refl}
use Rattle.mill_sched.proofs.Members.{read_worker}
use Rattle.mill_sched.proofs.Events.{piece_there, looks, looks_outcome, looks_state}
use Rattle.mill_sched.proofs.state.Core.look.Goals as goal

pub index_mut-requires : goal.index_mut-requires
index_mut-requires c =
    let there = piece_there _ c.args.w _ _ c.self.invariant (read_worker c.args.w c.worker_of.ensures c.in-Holding.is c.deref.ensures.value) refl in
    omega (arith, there, c.self.inside.pieces.ok)

pub invariant_of-self : goal.invariant_of-self
invariant_of-self c = looks _ c.args.w _ _ _ c.self.invariant (read_worker c.args.w c.worker_of.ensures c.in-Holding.is c.deref.ensures.value) c.index_mut.ensures.value c.look.ensures.piece

pub returns-clause-state : goal.returns-clause-state
returns-clause-state c =
    let is = read_worker c.args.w c.worker_of.ensures c.in-Holding.is c.deref.ensures.value in
    looks_state _ _ c.args.w _ _ _ c.self.view_is is (piece_there _ c.args.w _ _ c.self.invariant is refl) c.index_mut.ensures.value c.look.ensures.piece

pub returns-clause-outcome : goal.returns-clause-outcome
returns-clause-outcome c =
    let is = read_worker c.args.w c.worker_of.ensures c.in-Holding.is c.deref.ensures.value in
    looks_outcome _ _ c.args.w _ _ _ c.self.view_is is (piece_there _ c.args.w _ _ c.self.invariant is refl) c.index_mut.ensures.value c.look.ensures.outcome
