use Rattle.std.proofs.Common.{ℤ, false, ap, subst, sym, refl, ◌∙◌, to_z, of_z}
use Rattle.std.specs.Prelude.{◌+ℤ◌, ◌*ℤ◌}
use mir.Syntax.{w64}
use Rattle.mill_control.specs.Unrounded.{parts}
use Rattle.mill_block.proofs.FinerLemmas.{half_kept}
use Rattle.mill_base.specs.declared.motion.Kind.TheVariants.{Rapid}
use Rattle.mill_base.specs.declared.points.Pt3.{Pt3}
use Rattle.mill_block.specs.Kept.{Adds}
use Rattle.mill_block.specs.MachineLines.{above_of, gone_to}
use Rattle.mill_block.specs.Motion.{known_of}
use Rattle.mill_block.proofs.KeptLemmas.{risen}
use Rattle.mill_block.proofs.progress.Progress.rise_to_machine.Goals as goal

pub returns-clause-ok : goal.returns-clause-ok
returns-clause-ok c =
    let p = c.args.self.now in
    let up = subst (λ (at : Pt3). Adds (gone_to (known_of p) p Rapid false at) p c.args.out.now.items c.go_to.new.self c.go_to.new.out.items) c.above-above.ensures.value c.in_ok-go_to.ensures.ok in
    let h = c.exact_above-height in
    let text =
    ap (λ (f : ℤ). (parts *ℤ (above_of p).z) +ℤ f) (half_kept h.result.finer h.ensures.finer)
    ∙ ap (λ (u : ℤ). (parts *ℤ u) +ℤ h.result.finer) (sym h.ensures.units) ∙ h.ensures.text in
    risen p c.go_to.new.self _ _ (to_z w64 (of_z w64 h.result.finer)) c.args.out.now.items _ up c.go_to.ensures.stays c.raised-self.ensures text refl
