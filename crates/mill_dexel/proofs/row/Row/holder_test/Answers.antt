use Rattle.std.proofs.Common.{◌∙◌, sym}
use Rattle.mill_dexel.proofs.Stops.{held_found}
use Rattle.mill_dexel.proofs.row.Row.holder_test.Goals as goal

pub returns-in-Some : goal.returns-in-Some
returns-in-Some c = held_found c.args.job.now.fields c.args.self.now c.args.step.now c.in-Some.holder c.first_stop.result (sym c.holder_solid.ensures ∙ c.in-Some.is) c.first_stop.ensures.first c.first_stop.ensures.blocked
