use Rattle.std.proofs.Common.{◌∙◌, ap, sym}
use lib.IntN.{pos, ◌-ℤ◌}
use Rattle.std.proofs.lemmas.List.Elements.{Contains-get_or}
use Rattle.mill_base.proofs.Ranges.{coordinate}
use Rattle.mill_part.proofs.Stored.{next_lower}
use Rattle.mill_part.proofs.CoverLemmas.{point_of_part}
use Rattle.mill_part.proofs.NearScan.{no_tri, search_starts, search_goes_on, search_ends}
use Rattle.mill_part.proofs.sorted_part.has_near_point_over.Goals as goal

pub loop-number-init : goal.loop-number-init
loop-number-init c =
    search_starts c.args.tris.now no_tri c.args.column.band c.args.column.x c.args.column.y _ c.args.cells.now c.near_rising-near.result c.requires.cells_ok c.near_rising-near.ensures.tops
    (rw c.area.ensures at c.near_rising-near.ensures.each)

pub loop-number-smaller : goal.loop-number-smaller
loop-number-smaller c = c.in-Some.ensures.shorter

pub bounds-tris-number : goal.bounds-tris-number
bounds-tris-number c = c.loop-number.invariant.within c.in-Some.number c.in-Some.ensures.number

pub is_covered-requires-clause-tri_ok : goal.is_covered-requires-clause-tri_ok
is_covered-requires-clause-tri_ok c =
    let inside = c.loop-number.invariant.within c.in-Some.number c.in-Some.ensures.number in
    c.requires.in_range _ (Contains-get_or c.args.tris.now c.in-Some.number no_tri inside)

pub returns-then-is_covered-clause-yes : goal.returns-then-is_covered-clause-yes
returns-then-is_covered-clause-yes c =
    let inside = c.loop-number.invariant.within c.in-Some.number c.in-Some.ensures.number in
    let height = coordinate c.args.height c.requires.height_ok in
    λ t. point_of_part c.args.tris.now _ c.args.column.band c.args.column.x c.args.column.y c.args.height (Contains-get_or c.args.tris.now c.in-Some.number no_tri inside)
    (rw height at (c.is_covered.ensures.yes c.if-is_covered.true))

pub loop-number-preserved : goal.loop-number-preserved
loop-number-preserved c =
    search_goes_on c.args.tris.now no_tri c.args.column.band c.args.column.x c.args.column.y _ _ c.loop-number.near c.next_over.new.self c.in-Some.number
    (next_lower c.args.height c.requires.height_ok ∙ ap (λ z. z -ℤ pos 1) (sym (coordinate c.args.height c.requires.height_ok))) c.in-Some.ensures c.loop-number.invariant (c.is_covered.ensures.no c.if-is_covered.false)

pub returns-clause-no : goal.returns-clause-no
returns-clause-no c = λ f.
    search_ends c.args.tris.now no_tri c.args.column.band c.args.column.x c.args.column.y c.args.height _ c.loop-number.near c.next_over.new.self c.args.column.band_least
    (next_lower c.args.height c.requires.height_ok) c.in_default.ensures (rw (coordinate c.args.height c.requires.height_ok) at c.loop-number.invariant)
