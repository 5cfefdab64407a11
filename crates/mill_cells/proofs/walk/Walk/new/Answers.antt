use Rattle.std.proofs.Common.{◌≡◌, ◌≤◌, ◌^◌, sym, subst, ap, ◌∙◌, arith}
use Rattle.mill_cells.specs.Walks.{IsWalk}
use Rattle.mill_cells.specs.Frames.{IsBlock, block_of, frame_area}
use Rattle.mill_cells.proofs.FrameLemmas.{block_is, block_in, area_le, itself_inside}
use Rattle.mill_cells.proofs.Given.{new_walk, walk_each, walk_none, walk_once}
use Rattle.mill_cells.proofs.walk.Walk.new.Goals as goal

pub cells-requires : goal.cells-requires
cells-requires c = subst IsBlock (sym c.block-block.ensures) (block_is c.args.grid.now.frame c.in-Some.part c.requires.frame.bounds c.requires.frame.some c.in-Some.ensures.inside)

pub overflow_cast-cells : goal.overflow_cast-cells
overflow_cast-cells c =
    let f = c.args.grid.now.frame in
    let le = area_le f (block_of f c.in-Some.part) (block_in f c.in-Some.part c.requires.frame c.in-Some.ensures.inside) in
    let e : c.cells.result ≡ frame_area (block_of f c.in-Some.part) = c.cells.ensures.value ∙ ap frame_area c.block-block.ensures in
    let small : c.cells.result ≤ 2 ^ 20 = omega (arith, le, e, c.requires.frame.few) in
    omega arith

pub returns-in-Some-clause-walk : goal.returns-in-Some-clause-walk
returns-in-Some-clause-walk c =
    subst IsWalk (sym c.over.ensures)
    (new_walk c.args.grid c.in-Some.part c.block-block.result c.cells.result c.requires c.in-Some.ensures.inside c.block-block.ensures (omega (arith, c.cells.ensures.value)))

pub returns-in-Some-clause-each : goal.returns-in-Some-clause-each
returns-in-Some-clause-each c =
    walk_each c.over.result c.args.grid c.args.area c.in-Some.part c.block-block.result c.cells.result c.over.ensures c.requires c.block-block.ensures c.cells.ensures.value
    c.in-Some.ensures.inside c.in-Some.ensures.all c.in-Some.ensures.part

pub returns-in-Some-clause-once : goal.returns-in-Some-clause-once
returns-in-Some-clause-once c = walk_once c.over.result c.args.grid c.in-Some.part c.block-block.result c.cells.result c.over.ensures

pub returns-in-None-clause-walk : goal.returns-in-None-clause-walk
returns-in-None-clause-walk c =
    subst IsWalk (sym c.over-in-None.ensures)
    (new_walk c.args.grid c.args.grid.now.frame.bounds c.block.result 0 c.requires (itself_inside c.args.grid.now.frame.bounds c.requires.frame.bounds) c.block.ensures (omega arith))

pub returns-in-None-clause-each : goal.returns-in-None-clause-each
returns-in-None-clause-each c =
    walk_none c.over-in-None.result c.args.grid c.args.area c.args.grid.now.frame.bounds c.block.result c.over-in-None.ensures c.requires c.in-None.ensures.none

pub returns-in-None-clause-once : goal.returns-in-None-clause-once
returns-in-None-clause-once c = walk_once c.over-in-None.result c.args.grid c.args.grid.now.frame.bounds c.block.result 0 c.over-in-None.ensures
