use Rattle.std.specs.Prelude.{◌≡◌}
use Rattle.std.proofs.Common.{sym, ap, ◌∙◌, arith, w32, rules}
use Rattle.mill_control.specs.Holes.{top_of}
use Rattle.mill_control.specs.inner.Bounds.{back_of}
use Rattle.mill_control.proofs.Sinking.{behind_none, behind_some}
use Rattle.std.proofs.lemmas.Int.{to_z-of_z}
use Rattle.mill_control.proofs.hole.height_behind.Goals as goal

pub returns-then-done-eq0 : goal.returns-then-done-eq0
returns-then-done-eq0 c = to_z-of_z w32 c.args.top c.ranges.top ∙ c.requires.top ∙ sym (behind_none c.args.hole c.args.done c.if-done-eq0.true)

pub returns : goal.returns
returns c =
    let h = c.args.hole in
    let top = to_z-of_z w32 c.args.top c.ranges.top in
    let depth = to_z-of_z w32 c.depth.result (search rules) in
    let back : c.back.result ≡ back_of h.cycle c.args.top h.peck_clearance c.depth.result = rw (top, depth) at c.back.ensures in
    to_z-of_z w32 c.back.result (search rules) ∙ back ∙ ap (λ t. back_of h.cycle t h.peck_clearance c.depth.result) c.requires.top
    ∙ ap (λ d. back_of h.cycle (top_of h) h.peck_clearance d) c.depth.ensures.value ∙ sym (behind_some h c.args.done (omega arith))
