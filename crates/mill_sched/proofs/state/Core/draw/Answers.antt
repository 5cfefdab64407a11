use Rattle.std.proofs.Common.{arith}
use Rattle.mill_sched.proofs.Members.{read_worker}
use Rattle.mill_sched.proofs.Events.{draws_one, draws_none}
use Rattle.mill_sched.proofs.state.Core.draw.Goals as goal

pub invariant_of-self : goal.invariant_of-self
invariant_of-self c = draws_one _ c.args.w c.self.invariant (read_worker c.args.w c.worker_of.ensures c.in-Free.is c.deref.ensures.value) (omega arith)

pub invariant_of-self-else-n-len : goal.invariant_of-self-else-n-len
invariant_of-self-else-n-len c = draws_none _ c.args.w c.self.invariant (read_worker c.args.w c.worker_of.ensures c.in-Free.is c.deref.ensures.value) (omega arith)
