use Rattle.std.proofs.Common.{FitsSigned, rules, to_z}
use Rattle.std.proofs.lemmas.List.Elements.{Contains-get_or}
use mir.Syntax.{w32}
use Rattle.std.proofs.lemmas.Int.{to_z-of_z}
use Rattle.mill_base.proofs.Ranges.{coordinate}
use Rattle.mill_part.proofs.Stored.{band_kept}
use Rattle.mill_part.proofs.CoverLemmas.{none_yet, one_more, exact_after, bound_after}
use Rattle.mill_part.proofs.part.Part.covered_height.Goals as goal

pub loop-tri-init : goal.loop-tri-init
loop-tri-init c = (none_yet _ _ _ _ _, rw (coordinate c.args.floor c.requires.floor_ok) c.requires.floor_ok)

pub raised-height-requires-clause-tri_ok : goal.raised-height-requires-clause-tri_ok
raised-height-requires-clause-tri_ok c = c.tris-tri-items.ensures.in_range _ (rw (← c.tris-tri-items.ensures.list) (Contains-get_or _ _ _ c.loop-tri-test.true))

pub loop-tri-preserved : goal.loop-tri-preserved
loop-tri-preserved c =
    let fits : FitsSigned w32 c.raised-height.result = search rules in
    let stored = to_z-of_z w32 c.raised-height.result fits in
    let floor = coordinate c.args.floor c.requires.floor_ok in
    let next = one_more c.tris-tri-items.result.now _ _ _ _ c.loop-tri.tri-index _ (to_z w32 c.loop-tri.height-bits) c.raised-height.result
    c.loop-tri-test.true c.loop-tri.invariant.0 c.raised-height.ensures.kept c.raised-height.ensures.reached c.raised-height.ensures.highest in
    rw stored (next, bound_after c.tris-tri-items.result.now c.args.floor _ _ _ _ c.raised-height.result (rw c.tris-tri-items.ensures.list c.tris-tri-items.ensures.in_range) c.requires.floor_ok (rw floor at next))

pub returns-clause-exact : goal.returns-clause-exact
returns-clause-exact c =
    let floor = coordinate c.args.floor c.requires.floor_ok in
    let x = coordinate c.args.x c.requires.x_ok in
    let y = coordinate c.args.y c.requires.y_ok in
    let band = band_kept c.args.band c.requires.band_least c.requires.band_most in
    let before = rw (floor, x, y, band, c.tris-tri-items.ensures.list) at c.loop-tri.invariant.0 in
    exact_after c.args.self.now c.args.floor c.args.band c.args.x c.args.y c.loop-tri.tri-index _ (rw c.tris-tri-items.ensures.list at c.loop-tri-test.false) before
