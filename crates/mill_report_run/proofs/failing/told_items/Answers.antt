use Rattle.std.proofs.Common.{◌∙◌, ap, length, map}
use Rattle.std.proofs.lemmas.Result.{IfOk-weaker}
use Rattle.std.proofs.lemmas.Slice.Zip.{AllZip-long}
use Rattle.mill_report_run.proofs.Items.{are_items}
use Rattle.mill_report_run.specs.Reports.{IsLift}
use Rattle.mill_report_run.specs.inner.Sources.{texts_of_sources}
use Rattle.serde_json.specs.View.{view}
use Rattle.mill_report_run.proofs.failing.told_items.Goals as goal

pub failing_values-requires-clause-lifts : goal.failing_values-requires-clause-lifts
failing_values-requires-clause-lifts c =
    ap length c.deref-3.ensures.value ∙ AllZip-long (IsLift c.args.job.now.fields c.args.part.now c.args.moves.now) c.args.found.now c.in_ok-lifts.lifts.items c.in_ok-lifts.ensures

pub returns-clause-are : goal.returns-clause-are
returns-clause-are c =
    IfOk-weaker c.failing_values.result _ _
    (λ values told.
    are_items (texts_of_sources c.args.sources.now) c.args.job.now.fields c.args.part.now c.args.moves.now c.args.found.now c.text.result.now c.deref.result.now c.in_ok-places.places.items c.deref-3.result.now
    c.in_ok-lifts.lifts.items (map view values.items) c.text.ensures c.deref.ensures.value c.deref-3.ensures.value c.in_ok-places.ensures.are c.in_ok-lifts.ensures told)
    (rw c.part-whole.ensures at c.failing_values.ensures.«data»)
