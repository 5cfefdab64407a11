use Rattle.std.proofs.Common.{◌≡◌, rules}
use Rattle.mill_document.specs.Documents.{failure_data}
use Rattle.mill_document.proofs.Plain.{plain_failure}
use Rattle.serde_json.specs.View.{view}
use Rattle.mill_document.proofs.failure.failure_value.Goals as goal

pub returns-clause-plain : goal.returns-clause-plain
returns-clause-plain c =
    let told : view c.from.result ≡ failure_data c.args.unit c.args.words.now c.args.failure.now = search rules in
    rw told (plain_failure c.args.unit c.args.words.now c.args.failure.now)
