use Rattle.std.proofs.Common.{ℕ, ◌<◌, ◌∙◌, List, length, sym, subst}
use Rattle.std.specs.List.{All}
use Rattle.std.proofs.lemmas.Result.{IfOk-weaker}
use Rattle.mill_base.proofs.Ranges.{coordinate}
use Rattle.mill_drop.proofs.RowLemmas.{row_is_map}
use Rattle.mill_drop.proofs.Straightness.{tolerance_stored}
use Rattle.mill_drop.proofs.PathLemmas.{along_row, are_heights, some_heights, places_inside, is_path, path_keeps}
use Rattle.mill_drop.proofs.path.path_drop.Goals as goal

pub map_in_turn-requires-clause-lattice_ok : goal.map_in_turn-requires-clause-lattice_ok
map_in_turn-requires-clause-lattice_ok c =
    let r = c.requires.row_ok in
    let row = rw (coordinate c.args.y r.y_ok, coordinate c.args.x0 r.x0_ok, coordinate c.args.x1 r.x1_ok) at c.row.ensures in
    rw row (row_is_map c.args.y c.args.x0 c.args.x1 r)

pub places_of-requires-clause-heights_ok : goal.places_of-requires-clause-heights_ok
places_of-requires-clause-heights_ok c =
    let heights = c.in_ok-heights.heights.items in
    let are = along_row c.args.tool.now c.args.part.now c.args.y c.args.x0 c.args.x1 c.args.floor c.row.result heights c.requires.row_ok c.requires.floor_ok c.row.ensures c.in_ok-heights.ensures.heights in
    rw c.deref.ensures.value (are_heights c.args.tool.now c.args.part.now c.args.y c.args.x0 c.args.x1 c.args.floor heights c.requires.row_ok are
    (rw (coordinate c.args.floor c.requires.floor_ok) at c.in_ok-heights.ensures.bound))

pub places_of-requires-clause-some : goal.places_of-requires-clause-some
places_of-requires-clause-some c =
    let heights = c.in_ok-heights.heights.items in
    let are = along_row c.args.tool.now c.args.part.now c.args.y c.args.x0 c.args.x1 c.args.floor c.row.result heights c.requires.row_ok c.requires.floor_ok c.row.ensures c.in_ok-heights.ensures.heights in
    rw c.deref.ensures.value (some_heights c.args.tool.now c.args.part.now c.args.y c.args.x0 c.args.x1 c.args.floor heights are)

pub tips-requires-clause-heights_ok : goal.tips-requires-clause-heights_ok
tips-requires-clause-heights_ok c =
    let heights = c.in_ok-heights.heights.items in
    let are = along_row c.args.tool.now c.args.part.now c.args.y c.args.x0 c.args.x1 c.args.floor c.row.result heights c.requires.row_ok c.requires.floor_ok c.row.ensures c.in_ok-heights.ensures.heights in
    rw c.deref-2.ensures.value (are_heights c.args.tool.now c.args.part.now c.args.y c.args.x0 c.args.x1 c.args.floor heights c.requires.row_ok are
    (rw (coordinate c.args.floor c.requires.floor_ok) at c.in_ok-heights.ensures.bound))

pub tips-requires-clause-places_ok : goal.tips-requires-clause-places_ok
tips-requires-clause-places_ok c =
    let heights = c.in_ok-heights.heights.items in
    let are = along_row c.args.tool.now c.args.part.now c.args.y c.args.x0 c.args.x1 c.args.floor c.row.result heights c.requires.row_ok c.requires.floor_ok c.row.ensures c.in_ok-heights.ensures.heights in
    let some = some_heights c.args.tool.now c.args.part.now c.args.y c.args.x0 c.args.x1 c.args.floor heights are in
    let places = c.deref-3.ensures.value ∙ (rw (c.deref.ensures.value, tolerance_stored c.args.tol c.requires.tol_ok) at c.in_ok-places.ensures) in
    rw c.deref-2.ensures.value (subst (λ (ks : List ℕ). All (λ k. k < length heights) ks) (sym places) (places_inside heights c.args.tol some))

pub returns-clause-path : goal.returns-clause-path
returns-clause-path c =
    let heights = c.in_ok-heights.heights.items in
    let r = c.requires.row_ok in
    let are = along_row c.args.tool.now c.args.part.now c.args.y c.args.x0 c.args.x1 c.args.floor c.row.result heights r c.requires.floor_ok c.row.ensures c.in_ok-heights.ensures.heights in
    let places = c.deref-3.ensures.value ∙ (rw (c.deref.ensures.value, tolerance_stored c.args.tol c.requires.tol_ok) at c.in_ok-places.ensures) in
    let tips = rw (coordinate c.args.y r.y_ok, coordinate c.args.x0 r.x0_ok, c.deref-2.ensures.value) at c.tips.ensures in
    IfOk-weaker c.tips.result _ _
    (λ points t. is_path c.args.tool.now c.args.part.now c.args.y c.args.x0 c.args.x1 c.args.floor c.args.tol heights c.deref-3.result.now points.items are places t) tips

pub returns-clause-keeps : goal.returns-clause-keeps
returns-clause-keeps c =
    IfOk-weaker c.tips.result _ _
    (λ points path. path_keeps c.args.tool.now c.args.part.now c.args.y c.args.x0 c.args.x1 c.args.floor c.args.tol points.items c.requires.row_ok.order path)
    (returns-clause-path c)
