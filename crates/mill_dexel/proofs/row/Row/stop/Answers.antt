use Rattle.std.proofs.Common.{ap}
use Rattle.mill_dexel.specs.Rows.{RowState}
use Rattle.mill_dexel.proofs.row.Row.stop.Goals as goal

pub returns-in-Some : goal.returns-in-Some
returns-in-Some c = record { move = ap (λ (r : RowState). r.done) c.self.view_is; stops = c.in-Some.ensures }
