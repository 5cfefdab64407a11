use Rattle.std.specs.Prelude.{◌≡◌, ℕ, ℤ, true}
use Rattle.std.proofs.Common.{ap, ◌∙◌, rules, to_z, of_z}
use Rattle.std.proofs.lemmas.Int.{to_z-of_z}
use mir.Syntax.{w128}
use Rattle.mill_base.proofs.Ranges.{coordinate, within_of_unit}
use Rattle.mill_control.specs.Holes.{may_drill}
use Rattle.mill_block.specs.MachineLines.{is_level, rounded_or}
use Rattle.mill_block.specs.MachineSettings.{per_of}
use Rattle.mill_block.proofs.progress.Progress.may_drill.Goals as goal

pub returns-then-is_level : goal.returns-then-is_level
returns-then-is_level c =
    let p = c.args.self.now in
    let s = c.args.said.now in
    let v = c.args.series in
    let here-x = coordinate p.here.x (within_of_unit p.unit p.here.x c.requires.here.x_ok) in
    let here-y = coordinate p.here.y (within_of_unit p.unit p.here.y c.requires.here.y_ok) in
    let at-x : c.rounded_or-x.result ≡ rounded_or p p.here.x s.x = rw here-x at c.rounded_or-x.ensures in
    let at-y : c.rounded_or-y.result ≡ rounded_or p p.here.y s.y = rw here-y at c.rounded_or-y.ensures in
    let x = to_z-of_z w128 c.rounded_or-x.result (search rules) ∙ at-x in
    let y = to_z-of_z w128 c.rounded_or-y.result (search rules) ∙ at-y in
    let kept-x : ℤ = to_z w128 (of_z w128 c.rounded_or-x.result) in
    let kept-y : ℤ = to_z w128 (of_z w128 c.rounded_or-y.result) in
    let level : is_level p.machine.plane ≡ true = search rules in
    rw level (c.may_drill.ensures ∙ ap (λ (k : ℕ). may_drill v p.machine.returns k p.here kept-x kept-y) c.per.ensures.value
    ∙ ap (λ (a : ℤ). may_drill v p.machine.returns (per_of p) p.here a kept-y) x ∙ ap (λ (b : ℤ). may_drill v p.machine.returns (per_of p) p.here (rounded_or p p.here.x s.x) b) y)
