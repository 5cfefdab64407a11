use Rattle.std.proofs.Common.{◌≡◌, ◌∙◌}
use Rattle.std.specs.Prelude.{ℤ}
use mir.Syntax.{w64}
use Rattle.mill_base.proofs.Machine.{stored}
use Rattle.mill_block.specs.MachineSettings.{per_of}
use Rattle.mill_block.specs.inner.Finers.{finer_or}
use Rattle.mill_block.proofs.FinerLemmas.{half_kept, hole_finer, straight_finer}
use Rattle.mill_block.proofs.progress.Progress.finer_behind.Goals as goal

pub returns-in-Some-clause-exact : goal.returns-in-Some-clause-exact
returns-in-Some-clause-exact c = λ control done acts.
    let p = c.args.self.now in
    let s = c.args.said.now in
    let x : stored w64 c.finer_or.result ≡ finer_or (per_of p) p.machine.finer.x s.x = half_kept c.finer_or.result c.finer_or.ensures.bound ∙ rw (half_kept p.machine.finer.x c.requires.fits.finer_fits.x_fits) at c.finer_or.ensures.value in
    let y : stored w64 c.finer_or-2.result ≡ finer_or (per_of p) p.machine.finer.y s.y = half_kept c.finer_or-2.result c.finer_or-2.ensures.bound ∙ rw (half_kept p.machine.finer.y c.requires.fits.finer_fits.y_fits) at c.finer_or-2.ensures.value in
    rw (x, y, half_kept c.finer_over_hole.result c.finer_over_hole.ensures.bound)
    (hole_finer control p s c.in-Some.cycle c.finer_over_hole.result done c.in-Some.is (λ h may hole. c.finer_over_hole.ensures.exact control h may hole) acts)

pub returns-in-None-clause-exact : goal.returns-in-None-clause-exact
returns-in-None-clause-exact c = λ control done acts.
    let p = c.args.self.now in
    let s = c.args.said.now in
    let x : stored w64 c.finer_or.result ≡ finer_or (per_of p) p.machine.finer.x s.x = half_kept c.finer_or.result c.finer_or.ensures.bound ∙ rw (half_kept p.machine.finer.x c.requires.fits.finer_fits.x_fits) at c.finer_or.ensures.value in
    let y : stored w64 c.finer_or-2.result ≡ finer_or (per_of p) p.machine.finer.y s.y = half_kept c.finer_or-2.result c.finer_or-2.ensures.bound ∙ rw (half_kept p.machine.finer.y c.requires.fits.finer_fits.y_fits) at c.finer_or-2.ensures.value in
    let z : stored w64 c.finer_or-in-None.result ≡ finer_or (per_of p) p.machine.finer.z s.z = half_kept c.finer_or-in-None.result c.finer_or-in-None.ensures.bound ∙ rw (half_kept p.machine.finer.z c.requires.fits.finer_fits.z_fits) at c.finer_or-in-None.ensures.value in
    rw (x, y, z) (straight_finer control p s done c.requires.said c.requires.fits.finer_fits c.in-None.is acts)
