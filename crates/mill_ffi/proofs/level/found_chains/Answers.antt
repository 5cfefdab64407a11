use Rattle.std.proofs.Common.{rules, map}
use Rattle.mill_level.specs.Waterlines.{IsWaterline, seen}
use Rattle.mill_ffi.specs.Levels.{AreOutlines}
use Rattle.mill_ffi.proofs.level.found_chains.Goals as goal

pub returns : goal.returns
returns c =
    let is : IsWaterline c.args.tool.now c.args.part c.args.z c.args.lattice.now (map seen c.in_ok-chains.chains.items) = search rules in
    let are : AreOutlines (map seen c.in_ok-chains.chains.items) c.in_ok-found.found.chains.items c.in_ok-found.found.points.items = search rules in
    record { outlines = map seen c.in_ok-chains.chains.items; is = is; are = are }
