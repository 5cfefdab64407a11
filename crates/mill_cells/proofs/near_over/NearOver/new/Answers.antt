use Rattle.std.proofs.Common.{w32, to_z, of_z}
use Rattle.std.proofs.lemmas.Int.{to_z-of_z}
use Rattle.mill_cells.specs.Walks.{rest_of}
use Rattle.mill_cells.proofs.Over.{over_near, over_once}
use Rattle.mill_cells.proofs.near_over.NearOver.new.Goals as goal

pub returns-clause-each : goal.returns-clause-each
returns-clause-each c =
    let walk = c.new.result in
    over_near c.args.grid.now.boxes.items c.args.area walk.grid.now.tops.items c.args.grid.now.tops.items (to_z w32 (of_z w32 c.args.height)) c.args.height (rest_of walk)
    c.new.ensures.tops (to_z-of_z w32 c.args.height c.ranges.height) c.new.ensures.each

pub returns-clause-once : goal.returns-clause-once
returns-clause-once c = over_once c.new.result.grid.now.tops.items (to_z w32 (of_z w32 c.args.height)) (rest_of c.new.result) c.new.ensures.once
