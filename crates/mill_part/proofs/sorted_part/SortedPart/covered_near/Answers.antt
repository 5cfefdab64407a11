use Rattle.std.proofs.lemmas.Int.{to_z-of_z}
use mir.Syntax.{w32}
use Rattle.mill_base.proofs.Ranges.{coordinate}
use Rattle.mill_part.proofs.Stored.{band_kept}
use Rattle.mill_part.proofs.CoverLemmas.{covered_by_point, too_high}
use Rattle.mill_part.proofs.sorted_part.SortedPart.covered_near.Goals as goal

pub returns-then-height : goal.returns-then-height
returns-then-height c =
    let floor = coordinate c.args.floor c.requires.floor_ok in
    let height = to_z-of_z w32 c.args.height c.ranges.height in
    too_high c.args.self.now c.args.floor c.args.band c.args.x c.args.y c.args.height (rw c.self.view_is at c.tris-tris.ensures.in_range) (rw (height, floor) at c.if-floor-height.false) (rw height at c.if-height.true)

pub returns : goal.returns
returns c =
    let floor = coordinate c.args.floor c.requires.floor_ok in
    let x = coordinate c.args.x c.requires.x_ok in
    let y = coordinate c.args.y c.requires.y_ok in
    let band = band_kept c.args.band c.requires.band_least c.requires.band_most in
    let height = to_z-of_z w32 c.args.height c.ranges.height in
    covered_by_point c.args.self.now c.args.floor c.args.band c.args.x c.args.y c.args.height c.has_near_point_over.result (rw (height, floor) at c.if-floor-height.false)
    (rw (x, y, band, height, c.tris-tris.ensures.list, c.self.view_is) at c.has_near_point_over.ensures.yes) (rw (x, y, band, height, c.tris-tris.ensures.list, c.self.view_is) at c.has_near_point_over.ensures.no)
