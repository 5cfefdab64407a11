use Rattle.std.proofs.Common.{◌≡◌, ap, ◌∙◌}
use Rattle.std.specs.Prelude.{ℤ, pos, ◌*ℤ◌, ◌+ℤ◌}
use Rattle.mill_base.proofs.Ranges.{coordinate, within_of_unit}
use Rattle.mill_base.specs.Numbers.{greater}
use Rattle.mill_control.specs.Unrounded.{parts, text_of}
use Rattle.mill_block.proofs.FinerLemmas.{no_more}
use Rattle.mill_block.proofs.progress.Progress.exact_above.Goals as goal

pub returns-clause-text : goal.returns-clause-text
returns-clause-text c =
    let p = c.args.self.now in
    let clear = coordinate p.clear (within_of_unit p.unit p.clear c.requires.fits.clear_fits) in
    let text : text_of c.higher.result ≡ greater ((parts *ℤ p.here.z) +ℤ p.machine.finer.z) ((parts *ℤ p.clear) +ℤ pos 0) = rw (c.height.ensures.value, clear) at c.higher.ensures.text in
    text ∙ ap (greater ((parts *ℤ p.here.z) +ℤ p.machine.finer.z)) (no_more (parts *ℤ p.clear))
