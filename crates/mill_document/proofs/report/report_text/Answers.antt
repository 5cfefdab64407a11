use Rattle.std.proofs.Common.{◌≡◌, map, rules}
use Rattle.mill_document.specs.Documents.{report_data}
use Rattle.mill_document.proofs.Plain.{plain_items, plain_report}
use Rattle.serde_json.specs.View.{view}
use Rattle.mill_document.proofs.report.report_text.Goals as goal

pub document-requires : goal.document-requires
document-requires c =
    let failing = map view c.args.failing.items in
    let left = map view c.args.left.items in
    let told : view c.from.result ≡ report_data c.args.line.now c.args.sums.now c.args.summary.now failing left = search rules in
    rw told (plain_report c.args.line.now c.args.sums.now c.args.summary.now failing left (plain_items c.args.failing.items c.requires.failing) (plain_items c.args.left.items c.requires.left))
