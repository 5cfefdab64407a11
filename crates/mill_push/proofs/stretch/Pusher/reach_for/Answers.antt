use Rattle.std.proofs.Common.{rules, w32}
use Rattle.std.proofs.lemmas.Int.{to_z-of_z}
use Rattle.mill_cells.proofs.BoxLemmas.{most3}
use Rattle.mill_push.proofs.Pushing.{height_stored}
use Rattle.mill_push.proofs.Windows.{reach_by_top}
use Rattle.mill_push.proofs.stretch.Pusher.reach_for.Goals as goal

pub returns : goal.returns
returns c =
    let p = c.args.self in
    let tri = c.args.tri.now in
    let top = c.max-top.result in
    let is_top = to_z-of_z w32 top (search rules) in
    let value = rw is_top at (most3 top c.max.result tri.a.z tri.b.z tri.c.z (search rules) (search rules) (search rules) (search rules) (search rules) c.max-top.ensures.value c.max.ensures.value) in
    let reach = rw (height_stored p.fiber c.requires.self_ok.fiber_ok, is_top) at c.reach_up_to.ensures in
    rw (to_z-of_z w32 c.reach_up_to.result (search rules)) (reach_by_top p.cutter tri p.fiber.z top c.reach_up_to.result value reach)
