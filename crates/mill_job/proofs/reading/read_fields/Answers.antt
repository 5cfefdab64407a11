use Rattle.std.proofs.Common.{◌≡◌}
use Rattle.toml.specs.View.{table_view}
use Rattle.mill_job.specs.Documents.{unit_of}
use Rattle.mill_job.proofs.Meaning.{by_values}
use Rattle.mill_job.proofs.reading.read_fields.Goals as goal

-- A unit with which nothing is wrong is the document's, and the keys behind it decide.
pub returns-clause-gives : goal.returns-clause-gives
returns-clause-gives c =
    let ms = table_view c.in_ok-table.table in
    let unit : c.in_ok-unit-in-None.field-0 ≡ unit_of ms = c.in_ok-unit-in-None.ensures.ok.1 in
    by_values c.args.text.now ms c.fields_in.result c.in_ok-table.ensures.ok.0 c.in_ok-table.ensures.ok.1 c.in-None.ensures (rw (c.in_ok-unit-in-None.ensures.ok.0, ← unit) c.fields_in.ensures.value)
