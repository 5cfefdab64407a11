use Rattle.std.proofs.Common.{subst}
use Rattle.mill_push.specs.declared.fiber.Run.{Run}
use Rattle.mill_push.specs.inner.Known.{IsHull}
use Rattle.mill_push.proofs.Growing.{grown_at, grown_by_one}
use Rattle.mill_push.proofs.known.Known.add.Goals as goal

pub returns-in_default : goal.returns-in_default
returns-in_default c = rw (c.in_ok-push.ensures.items, c.note.ensures) (grown_by_one c.args.self.now.runs.items c.args.stretch)

pub returns : goal.returns
returns c =
    let hull = subst (λ (r : Run). IsHull r c.args.stretch c.hull.result) c.index_mut-run.ensures.value c.hull.ensures in
    rw c.note-2.ensures (grown_at c.args.self.now.runs.items c.args.stretch c.in-Some.number c.index_mut-run.result.now c.hull.result c.in-Some.ensures.within hull)
