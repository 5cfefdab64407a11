use Rattle.mill_geom.specs.declared.touch.Axis.TheVariants.{X}
use Rattle.mill_push.proofs.Sorting.{IfOk-more}
use Rattle.mill_push.proofs.Stored.{stored}
use Rattle.mill_level.specs.inner.Cuts.{BlockedOn}
use Rattle.mill_level.proofs.Blocking.{IfOk-any, place_blocked, tell_blocked}
use Rattle.mill_level.proofs.fiber.add_row.Goals as goal

pub returns : goal.returns
returns c =
    let told = rw c.deref.ensures.value at c.in_ok-add_blocked.ensures in
    let placed = rw c.deref-2.ensures.value at c.add_places.ensures in
    let held = rw (stored c.args.y c.requires.y_ok) at c.in_ok-runs.ensures.blocked in
    record {
      blocked = IfOk-any c.add_places.result _ (tell_blocked c.args.xs.now c.requires.xs_ok (BlockedOn c.args.cut.now X c.args.y) c.in_ok-runs.runs.items held _ _ told);
      places = IfOk-more c.add_places.result _ _ (λ _ h. place_blocked c.args.xs.now c.requires.xs_ok (BlockedOn c.args.cut.now X c.args.y) c.in_ok-runs.runs.items held _ _ h) placed;
    }
