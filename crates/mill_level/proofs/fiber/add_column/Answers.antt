use Rattle.mill_geom.specs.declared.touch.Axis.TheVariants.{Y}
use Rattle.mill_push.proofs.Sorting.{IfOk-more}
use Rattle.mill_push.proofs.Stored.{stored}
use Rattle.mill_level.specs.inner.Cuts.{BlockedOn}
use Rattle.mill_level.proofs.Blocking.{place_blocked}
use Rattle.mill_level.proofs.fiber.add_column.Goals as goal

pub returns : goal.returns
returns c =
    let placed = rw c.deref.ensures.value at c.add_places.ensures in
    let held = rw (stored c.args.x c.requires.x_ok) at c.in_ok-runs.ensures.blocked in
    IfOk-more c.add_places.result _ _ (λ _ h. place_blocked c.args.ys.now c.requires.ys_ok (BlockedOn c.args.cut.now Y c.args.x) c.in_ok-runs.runs.items held _ _ h) placed
