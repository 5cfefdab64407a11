use Rattle.std.specs.Prelude.{◌≡◌, List, length}
use Rattle.std.proofs.Common.{sym, ap, subst, arith}
use Rattle.mill_base.specs.declared.motion.Move.{Move}
use Rattle.mill_job.specs.Columns.{row_count}
use Rattle.mill_dexel.specs.Bands.{Banded}
use Rattle.mill_report.specs.inner.Stops.{AreTold, AreToldBy}
use Rattle.mill_report.proofs.Passing.{all_told, all_written}
use Rattle.mill_report.proofs.pass.go_through.Goals as goal

pub returns-clause-told : goal.returns-clause-told
returns-clause-told c =
    let stops = c.in_ok-stops.stops in
    let new = c.rows_through.new.stops in
    let same = ap (λ (b : Banded). b.moves) c.in_ok-bands.ensures in
    let told = all_told c.args.job.now.fields c.args.moves.now new (subst (λ (ms : List Move). AreToldBy c.args.job.now.fields ms (row_count c.args.job.now.fields) new) same c.in_ok-rows.ensures.told) in
    let count : stops.len ≡ length new = omega (arith, stops.ok, told.count, ap length c.in_ok-stops.ensures) in
    subst (AreTold c.args.job.now.fields c.args.moves.now) (sym (all_written stops.len new stops.items count)) told
