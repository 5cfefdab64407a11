use Rattle.std.proofs.Common.{◌≡◌, ℤ, ℕ, arith, rules, sym, ap, subst, ◌∙◌, to_z, of_z}
use Rattle.std.proofs.lemmas.Int.{ints, to_z-of_z}
use Rattle.std.specs.Prelude.{◌+ℤ◌, ◌*ℤ◌}
use mir.Syntax.{w32, w64, w128}
use mir.Val.{SFits}
use Rattle.mill_base.proofs.Ranges.{coordinate, within_of_unit}
use Rattle.mill_base.specs.Numbers.{Within}
use Rattle.mill_base.specs.Units.{greatest_of}
use Rattle.mill_control.specs.Lengths.{rounded}
use Rattle.mill_control.specs.Unrounded.{finer, parts, text_of}
use Rattle.mill_control.specs.declared.series.Series.{Series}
use Rattle.mill_block.specs.MachineLines.{hole_z, number_or, returns_or, series_for, text_end}
use Rattle.mill_block.specs.MachineSettings.{per_of}
use Rattle.mill_block.proofs.FinerLemmas.{half_kept, over_hole, top_within}
use Rattle.mill_block.proofs.progress.Progress.finer_over_hole.Goals as goal

pub returns-in_default-clause-exact : goal.returns-in_default-clause-exact
returns-in_default-clause-exact c = λ control h may hole.
    let p = c.args.self.now in
    let v = series_for p c.args.said.now c.args.cycle in
    let within = top_within control p c.args.said.now v h may hole in
    let is : c.rounded.result ≡ rounded (per_of p) (number_or v.r) =
    c.rounded.ensures ∙ ap (λ (k : ℕ). rounded k c.number_or-top.result) c.per.ensures.value
    ∙ ap (rounded (per_of p)) (c.number_or-top.ensures ∙ ap (λ (w : Series). number_or w.r) c.series_for.ensures.value) in
    let near : Within (greatest_of p.unit) c.rounded.result = subst (λ (z : ℤ). Within (greatest_of p.unit) z) (sym is) within in
    let big = within_of_unit p.unit c.rounded.result near in
    let same = to_z-of_z w128 c.rounded.result (search rules) in
    let fits : SFits w32 (to_z w128 (of_z w128 c.rounded.result)) = subst (SFits w32) (sym same) (grind (arith, ints, big.within)) in
    absurd (c.in_default.ensures fits)

pub returns-clause-exact : goal.returns-clause-exact
returns-clause-exact c = λ control h may hole.
    let p = c.args.self.now in
    let s = c.args.said.now in
    let v = series_for p s c.args.cycle in
    let back = returns_or p.machine.returns in
    let r : c.number_or-top.result ≡ number_or v.r = c.number_or-top.ensures ∙ ap (λ (w : Series). number_or w.r) c.series_for.ensures.value in
    let is : c.rounded.result ≡ rounded (per_of p) (number_or v.r) =
    c.rounded.ensures ∙ ap (λ (k : ℕ). rounded k c.number_or-top.result) c.per.ensures.value ∙ ap (rounded (per_of p)) r in
    let fine : c.finer.result ≡ finer (per_of p) (number_or v.r) =
    c.finer.ensures.value ∙ ap (λ (k : ℕ). finer k c.number_or-top.result) c.per-2.ensures.value ∙ ap (finer (per_of p)) r in
    let top : to_z w32 (of_z w32 c.in-Ok.units) ≡ rounded (per_of p) (number_or v.r) = search rules in
    let kept : to_z w64 (of_z w64 c.finer.result) ≡ finer (per_of p) (number_or v.r) = half_kept c.finer.result c.finer.ensures.bound ∙ fine in
    let end : to_z w64 (of_z w64 c.end_over.result.finer) ≡ c.end_over.result.finer = half_kept c.end_over.result.finer c.end_over.ensures.finer in
    let units : c.end_over.result.units ≡ hole_z p.here.z back (rounded (per_of p) (number_or v.r)) = rw (top, c.height.ensures.value) at c.end_over.ensures.units in
    let text : text_of c.end_over.result ≡ text_end back ((parts *ℤ rounded (per_of p) (number_or v.r)) +ℤ finer (per_of p) (number_or v.r)) ((parts *ℤ p.here.z) +ℤ p.machine.finer.z) =
    rw (top, kept, c.height.ensures.value) at c.end_over.ensures.text in
    rw end (over_hole control p s v h c.end_over.result.units c.end_over.result.finer may hole units text)
