use Rattle.std.proofs.Common.{refl, inl, inr}
use Rattle.mill_io.proofs.Held.{held_none}
use Rattle.mill_run.proofs.Planning.{fed_ready}
use Rattle.mill_run.proofs.Serving.{same_store}
use Rattle.mill_run.proofs.plan.load_fed.Goals as goal

pub returns-then-job-clause-told : goal.returns-then-job-clause-told
returns-then-job-clause-told g c = λ contents held. inr (c.if-job.true, refl)

pub returns-then-job-clause-store : goal.returns-then-job-clause-store
returns-then-job-clause-store g c =
    let view = g.S.Shelf.shows c.args.shelf.now in
    record { only = same_store view; reads = refl; held = held_none view.contents view.log }

pub returns-clause-told : goal.returns-clause-told
returns-clause-told g c = λ contents held. inl (c.if-job.false, c.load_under.ensures.told contents held)

pub returns-clause-ready : goal.returns-clause-ready
returns-clause-ready g c =
    let start = g.S.Shelf.shows c.args.shelf.now in
    fed_ready c.args.job.fields (start.contents c.args.part.now) c.load_under.result c.if-job.false c.load_under.ensures.ready (c.load_under.ensures.told start.contents c.load_under.ensures.store.held)
