use Rattle.std.proofs.Common.{rules, refl, w32, inr}
use Rattle.std.proofs.lemmas.Int.{to_z-of_z}
use lib.IntN.{pos, ◌-ℤ◌}
use Rattle.mill_push.proofs.Probing.{left_inside, left_apart}
use Rattle.mill_push.proofs.stretch.Pusher.probe.Goals as goal

pub returns-then-is_touched-clause-left : goal.returns-then-is_touched-clause-left
returns-then-is_touched-clause-left g c =
    let at = to_z-of_z w32 c.args.at (search rules) in
    let free = to_z-of_z w32 c.args.left.free (search rules) in
    let place = to_z-of_z w32 c.place.result (search rules) in
    let value = rw at at c.place.ensures.value in
    let touched = rw (place, value) at c.if-is_touched.ensures.yes in
    rw (at, free) (left_inside c.args.self.cutter c.args.tri.now c.args.self.fiber c.args.search c.args.left c.args.at c.requires.after c.requires.within (touched refl) c.requires.left_ok)

pub returns-else-is_touched-clause-left : goal.returns-else-is_touched-clause-left
returns-else-is_touched-clause-left g c =
    let at = to_z-of_z w32 c.args.at (search rules) in
    let held = to_z-of_z w32 c.args.left.held (search rules) in
    let next = to_z-of_z w32 (c.args.at -ℤ pos 1) (search rules) in
    let place = to_z-of_z w32 c.place.result (search rules) in
    let value = rw at at c.place.ensures.value in
    let apart = rw (place, value) at c.if-is_touched.ensures.no in
    rw (at, held, next) (left_apart c.args.self.cutter c.args.tri.now c.args.self.fiber c.args.search c.args.left c.args.at c.requires.after c.requires.within (apart refl) c.requires.left_ok)

pub returns-else-is_touched-clause-cut : goal.returns-else-is_touched-clause-cut
returns-else-is_touched-clause-cut g c =
    let at = to_z-of_z w32 c.args.at (search rules) in
    rw (at, to_z-of_z w32 c.args.left.held (search rules), to_z-of_z w32 (c.args.at -ℤ pos 1) (search rules)) (inr refl)
