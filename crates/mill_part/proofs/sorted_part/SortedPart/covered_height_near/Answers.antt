use Rattle.std.proofs.Common.{FitsSigned, rules, to_z}
use Rattle.std.proofs.lemmas.List.Elements.{Contains-get_or}
use mir.Syntax.{w32}
use Rattle.std.proofs.lemmas.Int.{to_z-of_z}
use Rattle.mill_base.proofs.Ranges.{coordinate}
use Rattle.mill_part.proofs.Stored.{band_kept}
use Rattle.mill_part.proofs.NearScan.{no_tri, scan_starts, next_within, scan_goes_on, scan_ends, scan_bound}
use Rattle.mill_part.proofs.sorted_part.SortedPart.covered_height_near.Goals as goal

pub loop-number-init : goal.loop-number-init
loop-number-init c =
    let floor = coordinate c.args.floor c.requires.floor_ok in
    let x = coordinate c.args.x c.requires.x_ok in
    let y = coordinate c.args.y c.requires.y_ok in
    let band = band_kept c.args.band c.requires.band_least c.requires.band_most in
    let square = rw (x, y, band) at c.area.ensures in
    let each = rw square at c.near_rising-near.ensures.each in
    rw (floor, x, y, band, c.tris-tris.ensures.list, c.self.view_is) (
      scan_starts c.args.self.now no_tri c.args.floor c.args.band c.args.x c.args.y c.self.inside.cells c.near_rising-near.result (rw c.self.view_is at c.self.invariant) c.near_rising-near.ensures.tops each,
      c.requires.floor_ok,
    )

pub loop-number-smaller : goal.loop-number-smaller
loop-number-smaller c = c.in-Some.ensures.shorter

pub bounds-tris-number : goal.bounds-tris-number
bounds-tris-number c = next_within c.tris-tris.result.now no_tri _ _ _ _ c.loop-number.near c.next_over.new.self c.in-Some.number _ _ c.in-Some.ensures c.loop-number.invariant.0

pub raised-height-requires-clause-tri_ok : goal.raised-height-requires-clause-tri_ok
raised-height-requires-clause-tri_ok c =
    let inside = next_within c.tris-tris.result.now no_tri _ _ _ _ c.loop-number.near c.next_over.new.self c.in-Some.number _ _ c.in-Some.ensures c.loop-number.invariant.0 in
    c.tris-tris.ensures.in_range _ (rw (← c.tris-tris.ensures.list) (Contains-get_or _ _ _ inside))

pub loop-number-preserved : goal.loop-number-preserved
loop-number-preserved c =
    let fits : FitsSigned w32 c.raised-height.result = search rules in
    let stored = to_z-of_z w32 c.raised-height.result fits in
    let floor = coordinate c.args.floor c.requires.floor_ok in
    let next = scan_goes_on c.tris-tris.result.now no_tri _ _ _ _ c.loop-number.near c.next_over.new.self c.in-Some.number (to_z w32 c.loop-number.height-bits) c.raised-height.result
    c.in-Some.ensures c.loop-number.invariant.0 c.raised-height.ensures.kept c.raised-height.ensures.reached c.raised-height.ensures.highest in
    rw stored (next, scan_bound c.tris-tris.result.now no_tri c.args.floor _ _ _ c.next_over.new.self c.raised-height.result (rw c.tris-tris.ensures.list c.tris-tris.ensures.in_range) c.requires.floor_ok (rw floor at next))

pub returns-clause-exact : goal.returns-clause-exact
returns-clause-exact c =
    let floor = coordinate c.args.floor c.requires.floor_ok in
    let x = coordinate c.args.x c.requires.x_ok in
    let y = coordinate c.args.y c.requires.y_ok in
    let band = band_kept c.args.band c.requires.band_least c.requires.band_most in
    let before = rw (floor, x, y, band, c.tris-tris.ensures.list, c.self.view_is) at c.loop-number.invariant.0 in
    scan_ends c.args.self.now no_tri c.args.floor c.args.band c.args.x c.args.y c.loop-number.near c.next_over.new.self _ c.requires.band_least c.in_default.ensures before
