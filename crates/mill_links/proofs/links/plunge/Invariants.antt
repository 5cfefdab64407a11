use Rattle.std.specs.Prelude.{◌-◌}
use Rattle.mill_links.proofs.Plunging.{Plunges}
use Rattle.mill_links.proofs.links.plunge.Given as goal

abbrev pub invariant-loop : goal.invariant-loop
invariant-loop l = Plunges l.job.fields l.at l.fn.out.items l.out.items (l.end - l.counter) l.start l.low
