use Rattle.std.specs.Prelude.{◌≡◌}
use Rattle.std.proofs.Common.{rules}
use Rattle.mill_block.specs.MachineSettings.{per_of}
use Rattle.mill_block.specs.inner.Finers.{finer_or}
use Rattle.mill_block.proofs.ArcNumbers.{end_is}
use Rattle.mill_block.proofs.progress.Progress.exact_end.Goals as goal

pub returns-clause-text : goal.returns-clause-text
returns-clause-text c =
    let p = c.args.self.now in
    let s = c.args.said.now in
    let x : c.end_coordinate.result ≡ record { units = c.args.to.x; finer = finer_or (per_of p) p.machine.finer.x s.x } = search rules in
    let y : c.end_coordinate-2.result ≡ record { units = c.args.to.y; finer = finer_or (per_of p) p.machine.finer.y s.y } = search rules in
    let z : c.end_coordinate-3.result ≡ record { units = c.args.to.z; finer = finer_or (per_of p) p.machine.finer.z s.z } = search rules in
    λ control is. rw (x, y, z) (end_is control p s c.args.to is)
