use Rattle.std.proofs.Common.{rules, ◌≡◌, ◌≢◌, inl, inr, length, sym, subst}
use Rattle.std.specs.Prelude.{Option, Some, IsSomeAnd}
use Rattle.mill_base.specs.declared.tool.Tool.{Tool}
use Rattle.mill_ffi_data.specs.Raw.{IsSoundTool, lattice_of, tool_of, tris_of}
use Rattle.mill_ffi_data.specs.declared.raw.RawCounts.{RawCounts}
use Rattle.mill_ffi.specs.Levels.{AreChainsAt, AreSoundLevel, HasOtherRooms, counts_of}
use Rattle.mill_ffi.proofs.level.chains_into.Goals as goal

pub returns-in_err-found-clause-cause : goal.returns-in_err-found-clause-cause
returns-in_err-found-clause-cause c =
    let sound_tool : IsSoundTool c.args.tool.now = search rules in
    let sound : AreSoundLevel c.args.triangles.now c.args.z c.args.lattice.now = search rules in
    search (rules, sound_tool, sound)

pub returns-then-chains-len-clause-cause : goal.returns-then-chains-len-clause-cause
returns-then-chains-len-clause-cause c =
    let same : tool_of c.args.tool.now ≡ Some c.in-Ok.cutting = search rules in
    let are : AreChainsAt c.in-Ok.cutting (tris_of c.args.triangles.now) c.args.z (lattice_of c.args.lattice.now) c.in_ok-found.found.chains.items c.in_ok-found.found.points.items = search rules in
    let told : RawCounts = record { chains = c.len.result; points = c.len-2.result } in
    let told_ok : told ≡ counts_of c.in_ok-found.found.chains.items c.in_ok-found.found.points.items = search rules in
    let other : length c.args.chains.now ≢ length c.in_ok-found.found.chains.items = search rules in
    subst (λ (o : Option Tool). IsSomeAnd o (λ t. HasOtherRooms c.args.triangles.now t c.args.z c.args.lattice.now (length c.args.chains.now) (length c.args.points.now) told)) (sym same)
    (record { chains = c.in_ok-found.found.chains.items; points = c.in_ok-found.found.points.items; are = are; told_ok = told_ok; other = inl other })

pub returns-then-points-len-clause-cause : goal.returns-then-points-len-clause-cause
returns-then-points-len-clause-cause c =
    let same : tool_of c.args.tool.now ≡ Some c.in-Ok.cutting = search rules in
    let are : AreChainsAt c.in-Ok.cutting (tris_of c.args.triangles.now) c.args.z (lattice_of c.args.lattice.now) c.in_ok-found.found.chains.items c.in_ok-found.found.points.items = search rules in
    let told : RawCounts = record { chains = c.len.result; points = c.len-2.result } in
    let told_ok : told ≡ counts_of c.in_ok-found.found.chains.items c.in_ok-found.found.points.items = search rules in
    let other : length c.args.points.now ≢ length c.in_ok-found.found.points.items = search rules in
    subst (λ (o : Option Tool). IsSomeAnd o (λ t. HasOtherRooms c.args.triangles.now t c.args.z c.args.lattice.now (length c.args.chains.now) (length c.args.points.now) told)) (sym same)
    (record { chains = c.in_ok-found.found.chains.items; points = c.in_ok-found.found.points.items; are = are; told_ok = told_ok; other = inr other })
