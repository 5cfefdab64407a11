use Rattle.toml.specs.View.{table_view}
use Rattle.mill_job.proofs.AllKeys.{cutter_decides}
use Rattle.mill_job.proofs.cutter.read_cutter.Goals as goal

pub returns-clause-value : goal.returns-clause-value
returns-clause-value c =
    let outline = c.in_ok-outline_in.ensures.ok in
    cutter_decides (table_view c.args.table.now) c.in_ok-outline_in.field-0 c.cutter.result outline.0 outline.1 c.cutter.ensures.ok c.cutter.ensures.err
