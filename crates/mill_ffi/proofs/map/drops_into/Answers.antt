use Rattle.std.proofs.Common.{rules, ◌≡◌, length}
use Rattle.mill_ffi_data.specs.Raw.{nodes_in}
use Rattle.mill_ffi.specs.Lattices.{AreSoundNodes}
use Rattle.mill_ffi.specs.inner.Testing.{AreSoundBeside}
use Rattle.mill_ffi.proofs.Nodes.{sound_nodes}
use Rattle.mill_ffi.proofs.map.drops_into.Goals as goal

pub returns-in_err-part-clause-cause : goal.returns-in_err-part-clause-cause
returns-in_err-part-clause-cause c =
    let beside : AreSoundBeside c.args.triangles.now c.args.lattice.now c.args.floor = search rules in
    let room : length c.args.heights.now ≡ nodes_in c.args.lattice.now = search rules in
    let sound : AreSoundNodes c.args.triangles.now c.args.lattice.now c.args.floor (length c.args.heights.now) = sound_nodes c.args.triangles.now c.args.lattice.now c.args.floor (length c.args.heights.now) beside room in
    search (rules, sound)

pub returns-in_err-found-clause-cause : goal.returns-in_err-found-clause-cause
returns-in_err-found-clause-cause c =
    let beside : AreSoundBeside c.args.triangles.now c.args.lattice.now c.args.floor = search rules in
    let room : length c.args.heights.now ≡ nodes_in c.args.lattice.now = search rules in
    let sound : AreSoundNodes c.args.triangles.now c.args.lattice.now c.args.floor (length c.args.heights.now) = sound_nodes c.args.triangles.now c.args.lattice.now c.args.floor (length c.args.heights.now) beside room in
    search (rules, sound)

pub returns-clause-sound : goal.returns-clause-sound
returns-clause-sound c =
    let beside : AreSoundBeside c.args.triangles.now c.args.lattice.now c.args.floor = search rules in
    let room : length c.args.heights.now ≡ nodes_in c.args.lattice.now = search rules in
    sound_nodes c.args.triangles.now c.args.lattice.now c.args.floor (length c.args.heights.now) beside room
