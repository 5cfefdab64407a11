use Rattle.std.proofs.Common.{◌≡◌, List, ℤ, length, pos, slice_index_or, arith, subst, sym, ap, ◌∙◌}
use Rattle.mill_base.specs.Lattices.{lattice_xs, lattice_ys}
use Rattle.mill_push.proofs.Stored.{stored}
use Rattle.mill_level.specs.inner.Fibers.{ArePositions}
use Rattle.mill_level.proofs.Filled.{filled}
use Rattle.mill_level.proofs.Mapping.{item_within, rows_start, rows_more, columns_start, columns_more}
use Rattle.mill_level.proofs.Positions.{xs_are_positions, ys_are_positions}
use Rattle.mill_level.proofs.map.level_map.Goals as goal

pub loop-y-init : goal.loop-y-init
loop-y-init c = rows_start c.args.cut.now.tool c.args.cut.now.part.now c.args.cut.now.z c.args.lattice.now _ _ c.in_ok-blocked.ensures.items c.in_ok-places.ensures.items

pub add_row-requires-clause-y_ok : goal.add_row-requires-clause-y_ok
add_row-requires-clause-y_ok c =
    let y = item_within _ _ (c.deref-y-items.ensures.value ∙ c.in_ok-ys.ensures) (ys_are_positions c.args.lattice.now c.requires.lattice_ok) c.loop-y.y-index c.loop-y-test.true in
    rw (stored (slice_index_or c.deref-y-items.result.now c.loop-y.y-index (pos 0)) y) y

pub add_row-requires-clause-xs_ok : goal.add_row-requires-clause-xs_ok
add_row-requires-clause-xs_ok c = subst ArePositions (sym (c.deref.ensures.value ∙ c.in_ok-xs.ensures)) (xs_are_positions c.args.lattice.now c.requires.lattice_ok)

pub loop-y-preserved : goal.loop-y-preserved
loop-y-preserved c =
    let ys = c.deref-y-items.ensures.value ∙ c.in_ok-ys.ensures in
    let xs = c.deref.ensures.value ∙ c.in_ok-xs.ensures in
    let at = stored (slice_index_or c.deref-y-items.result.now c.loop-y.y-index (pos 0))
    (item_within _ _ ys (ys_are_positions c.args.lattice.now c.requires.lattice_ok) c.loop-y.y-index c.loop-y-test.true) in
    let told = rw (at, ys, xs) at c.in_ok-add_row.ensures.blocked in
    let placed = rw (at, ys, xs) at c.in_ok-add_row.ensures.places in
    rows_more c.args.cut.now.tool c.args.cut.now.part.now c.args.cut.now.z c.args.lattice.now c.loop-y.y-index _ _ _ _ c.loop-y.invariant told placed

pub loop-x-init : goal.loop-x-init
loop-x-init c =
    let ys : c.deref-y-items.result.now ≡ lattice_ys c.args.lattice.now = c.deref-y-items.ensures.value ∙ c.in_ok-ys.ensures in
    let all : c.loop-y.y-index ≡ length c.deref-y-items.result.now = omega arith in
    columns_start c.args.cut.now.tool c.args.cut.now.part.now c.args.cut.now.z c.args.lattice.now c.loop-y.y-index _ _ (all ∙ ap (λ (zs : List ℤ). length zs) ys) c.loop-y.invariant

pub add_column-requires-clause-x_ok : goal.add_column-requires-clause-x_ok
add_column-requires-clause-x_ok c =
    let x = item_within _ _ (c.deref-x-items.ensures.value ∙ c.in_ok-xs.ensures) (xs_are_positions c.args.lattice.now c.requires.lattice_ok) c.loop-x.x-index c.loop-x-test.true in
    rw (stored (slice_index_or c.deref-x-items.result.now c.loop-x.x-index (pos 0)) x) x

pub add_column-requires-clause-ys_ok : goal.add_column-requires-clause-ys_ok
add_column-requires-clause-ys_ok c = subst ArePositions (sym (c.deref-in-loop-x.ensures.value ∙ c.in_ok-ys.ensures)) (ys_are_positions c.args.lattice.now c.requires.lattice_ok)

pub loop-x-preserved : goal.loop-x-preserved
loop-x-preserved c =
    let xs = c.deref-x-items.ensures.value ∙ c.in_ok-xs.ensures in
    let ys = c.deref-in-loop-x.ensures.value ∙ c.in_ok-ys.ensures in
    let at = stored (slice_index_or c.deref-x-items.result.now c.loop-x.x-index (pos 0))
    (item_within _ _ xs (xs_are_positions c.args.lattice.now c.requires.lattice_ok) c.loop-x.x-index c.loop-x-test.true) in
    let placed = rw (at, xs, ys) at c.in_ok-add_column.ensures in
    columns_more c.args.cut.now.tool c.args.cut.now.part.now c.args.cut.now.z c.args.lattice.now c.loop-x.x-index _ _ _ c.loop-x.invariant placed

pub returns : goal.returns
returns c =
    let xs : c.deref-x-items.result.now ≡ lattice_xs c.args.lattice.now = c.deref-x-items.ensures.value ∙ c.in_ok-xs.ensures in
    let all : c.loop-x.x-index ≡ length c.deref-x-items.result.now = omega arith in
    filled c.args.cut.now.tool c.args.cut.now.part.now c.args.cut.now.z c.args.lattice.now _ c.loop-x.x-index c.requires.lattice_ok
    c.node_columns.ensures.value c.node_rows.ensures.value c.in_ok-xs.ensures c.in_ok-ys.ensures
    (all ∙ ap (λ (zs : List ℤ). length zs) xs) c.loop-x.invariant
