use Rattle.std.proofs.Common.{subst}
use Rattle.mill_block.specs.Kept.{Adds}
use Rattle.mill_block.specs.MachineLines.{machine_acted, machine_done}
use Rattle.mill_block.specs.declared.progress.Progress.{Progress}
use Rattle.mill_block.proofs.KeptLemmas.{settled_here, stopped}
use Rattle.mill_block.proofs.progress.Progress.act_for_machine.Goals as goal

pub do_line-requires-clause-here : goal.do_line-requires-clause-here
do_line-requires-clause-here c = rw c.settle_for_machine.ensures.value (settled_here c.args.control c.args.self.now c.args.said.now c.requires.here)

pub returns-clause-ok : goal.returns-clause-ok
unfolding machine_acted
returns-clause-ok c =
    let done = subst (λ (p : Progress). Adds (machine_done c.args.control p c.args.said.now) p c.args.out.now.items c.do_line.new.self c.do_line.new.out.items) c.settle_for_machine.ensures.value c.in_ok-do_line.ensures.ok in
    stopped c.args.control c.args.said.now c.args.said.now.stops _ c.args.self.now c.do_line.new.self c.stop_behind.new.self _ _ done c.stop_behind.ensures.value
