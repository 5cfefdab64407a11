use Rattle.std.proofs.Common.{◌≡◌, ◌+◌, ◌*◌, ap, add-mul, arith}
use Rattle.mill_cells.specs.Boxes.{box_at}
use Rattle.mill_cells.specs.Frames.{cell_count}
use Rattle.mill_cells.proofs.Walked.{walked}
use Rattle.mill_cells.proofs.Counting.{count_skips, count_ends, count_one, count_small}
use Rattle.mill_cells.proofs.placing.count_box.Goals as goal

pub overflow_add-row-end : goal.overflow_add-row-end
overflow_add-row-end c =
    let w = walked c.args.frame.now (box_at c.args.boxes.now c.args.number) c.block-block.result c.requires.frame (c.requires.inside c.args.number c.requires.number) c.block-block.ensures in
    omega (arith, w.small.1)

pub loop-row-init : goal.loop-row-init
loop-row-init c =
    let w = walked c.args.frame.now (box_at c.args.boxes.now c.args.number) c.block-block.result c.requires.frame (c.requires.inside c.args.number c.requires.number) c.block-block.ensures in
    count_skips c.args.frame.now c.args.boxes.now c.args.starts.now c.args.number 0 (c.block-block.result.first_row * c.args.frame.now.columns) (omega arith) (λ k more less. w.before_rows k less) c.requires.counting

pub overflow_add-column-end : goal.overflow_add-column-end
overflow_add-column-end c =
    let w = walked c.args.frame.now (box_at c.args.boxes.now c.args.number) c.block-block.result c.requires.frame (c.requires.inside c.args.number c.requires.number) c.block-block.ensures in
    omega (arith, w.small.0)

pub loop-column-init : goal.loop-column-init
loop-column-init c =
    let w = walked c.args.frame.now (box_at c.args.boxes.now c.args.number) c.block-block.result c.requires.frame (c.requires.inside c.args.number c.requires.number) c.block-block.ensures in
    let start = c.loop-row.row * c.args.frame.now.columns in
    count_skips c.args.frame.now c.args.boxes.now c.loop-row.starts c.args.number start (start + c.block-block.result.first_column) (omega arith) (λ k more less. w.before_columns c.loop-row.row k more less) c.loop-row.invariant

pub loop-row-preserved : goal.loop-row-preserved
loop-row-preserved c =
    let w = walked c.args.frame.now (box_at c.args.boxes.now c.args.number) c.block-block.result c.requires.frame (c.requires.inside c.args.number c.requires.number) c.block-block.ensures in
    let start = c.loop-row.row * c.args.frame.now.columns in
    let next = add-mul c.loop-row.row 1 c.args.frame.now.columns in
    count_skips c.args.frame.now c.args.boxes.now c.loop-column.starts c.args.number (start + c.loop-column.column) ((c.loop-row.row + 1) * c.args.frame.now.columns)
    (omega (arith, w.order.0, w.order.2)) (λ k more less. w.after_columns c.loop-row.row k (omega arith) less) c.loop-column.invariant

pub returns : goal.returns
returns c =
    let w = walked c.args.frame.now (box_at c.args.boxes.now c.args.number) c.block-block.result c.requires.frame (c.requires.inside c.args.number c.requires.number) c.block-block.ensures in
    let e : c.loop-row.row ≡ c.block-block.result.last_row + 1 = omega (arith, w.order.1) in
    let same : c.loop-row.row * c.args.frame.now.columns ≡ (c.block-block.result.last_row + 1) * c.args.frame.now.columns = ap (λ n. n * c.args.frame.now.columns) e in
    count_ends c.args.frame.now c.args.boxes.now c.loop-row.starts c.args.number
    (count_skips c.args.frame.now c.args.boxes.now c.loop-row.starts c.args.number (c.loop-row.row * c.args.frame.now.columns) (cell_count c.args.frame.now) (omega (arith, w.last))
    (λ k more less. w.after_rows k (omega arith)) c.loop-row.invariant)

pub bounds-starts-start : goal.bounds-starts-start
bounds-starts-start c =
    let w = walked c.args.frame.now (box_at c.args.boxes.now c.args.number) c.block-block.result c.requires.frame (c.requires.inside c.args.number c.requires.number) c.block-block.ensures in
    let here = w.here c.loop-row.row c.loop-column.column (omega (arith, w.order.1)) c.loop-row-test.true (omega (arith, w.order.0)) c.loop-column-test.true in
    omega (arith, here.0, c.loop-column.invariant.long)

pub overflow_add-starts-in-loop-column-2 : goal.overflow_add-starts-in-loop-column-2
overflow_add-starts-in-loop-column-2 c =
    let w = walked c.args.frame.now (box_at c.args.boxes.now c.args.number) c.block-block.result c.requires.frame (c.requires.inside c.args.number c.requires.number) c.block-block.ensures in
    let here = w.here c.loop-row.row c.loop-column.column (omega (arith, w.order.1)) c.loop-row-test.true (omega (arith, w.order.0)) c.loop-column-test.true in
    let cell = c.loop-row.row * c.args.frame.now.columns + c.loop-column.column in
    omega (arith, count_small c.args.frame.now c.args.boxes.now c.loop-column.starts c.args.number cell cell (omega arith) here.0 c.loop-column.invariant)

pub bounds-starts-start-in-loop-column : goal.bounds-starts-start-in-loop-column
bounds-starts-start-in-loop-column c =
    let w = walked c.args.frame.now (box_at c.args.boxes.now c.args.number) c.block-block.result c.requires.frame (c.requires.inside c.args.number c.requires.number) c.block-block.ensures in
    let here = w.here c.loop-row.row c.loop-column.column (omega (arith, w.order.1)) c.loop-row-test.true (omega (arith, w.order.0)) c.loop-column-test.true in
    omega (arith, here.0, c.loop-column.invariant.long)

pub loop-column-preserved : goal.loop-column-preserved
loop-column-preserved c =
    let w = walked c.args.frame.now (box_at c.args.boxes.now c.args.number) c.block-block.result c.requires.frame (c.requires.inside c.args.number c.requires.number) c.block-block.ensures in
    let here = w.here c.loop-row.row c.loop-column.column (omega (arith, w.order.1)) c.loop-row-test.true (omega (arith, w.order.0)) c.loop-column-test.true in
    let cell = c.loop-row.row * c.args.frame.now.columns + c.loop-column.column in
    let next : cell + 1 ≡ c.loop-row.row * c.args.frame.now.columns + (c.loop-column.column + 1) = omega arith in
    count_one c.args.frame.now c.args.boxes.now c.loop-column.starts c.args.number cell _ next here.0 here.1 c.loop-column.invariant
