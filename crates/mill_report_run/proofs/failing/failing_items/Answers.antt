use Rattle.std.proofs.Common.{map}
use Rattle.std.proofs.lemmas.Result.{IfOk-weaker}
use Rattle.mill_report_run.proofs.Items.{failing_are, some_found}
use Rattle.mill_report_run.specs.inner.Sources.{texts_of_sources}
use Rattle.serde_json.specs.View.{view}
use Rattle.mill_report_run.proofs.failing.failing_items.Goals as goal

pub returns-clause-are : goal.returns-clause-are
returns-clause-are c =
    IfOk-weaker c.told_items.result _ _
    (λ values are. failing_are (texts_of_sources c.args.sources.now) c.args.job.now.fields c.args.part.now c.args.moves.now c.args.found.now (map view values.items)
    (some_found c.args.found.now c.is_empty.result c.is_empty.ensures c.if-is_empty.false) are)
    c.told_items.ensures.are
