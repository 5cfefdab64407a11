use Rattle.toml.specs.View.{table_view}
use Rattle.mill_job.proofs.ListMeaning.{by_answer}
use Rattle.mill_job.proofs.list.read_list.Goals as goal

pub returns-clause-gives : goal.returns-clause-gives
returns-clause-gives c =
    by_answer c.args.job.now.fields c.args.text.now (table_view c.in_ok-table.table) c.steps_at.result c.in_ok-table.ensures.ok.0 c.in_ok-table.ensures.ok.1 c.in_default.ensures c.steps_at.ensures.ok c.steps_at.ensures.err
