use Rattle.std.proofs.Common.{Err, ap, rules, ◌∙◌}
use Rattle.std.specs.Prelude.{◌≢◌}
use Rattle.mill_said.specs.declared.fault.NgcFault.TheVariants.{WantOfMemory}
use Rattle.mill_run.proofs.Samples.{no_fault}
use Rattle.mill_run.proofs.sample.read_back.Goals as goal

pub unreachable-requires : goal.unreachable-requires
unreachable-requires c =
    let other : (c.read_moves.result ≢ Err WantOfMemory) = search rules in
    no_fault _ c.in-Err._fault (c.in-Err.ensures.fault (λ e. other (c.in-Err.is ∙ ap Err e))) c.requires
