use Rattle.std.proofs.Common.{◌∙◌}
use Rattle.mill_base.proofs.Ranges.{coordinate}
use Rattle.mill_document.proofs.Tops.{in_row, stored_within, top_from, top_is, top_within}
use Rattle.mill_document.proofs.met.column_top.Goals as goal

pub bounds-tops-col : goal.bounds-tops-col
bounds-tops-col c =
    in_row c.args.job.now.fields c.args.rows.now c.args.row c.args.col c.index-rows-row.result c.tops.result.now c.requires.count c.requires.column c.index-rows-row.is c.tops.ensures c.requires.rows_ok

pub returns : goal.returns
returns c =
    let job = c.args.job.now.fields in
    let rows = c.args.rows.now in
    let tops = c.tops.result.now in
    let within = top_within c.args.job.now.is_job (top_from job rows c.args.row c.args.col c.index-rows-row.result tops c.requires.count c.requires.column c.index-rows-row.is c.tops.ensures c.requires.rows_ok) in
    record {
      in_range = stored_within _ within;
      top = λ stock shows. coordinate _ within ∙ top_is job rows c.args.row c.args.col c.index-rows-row.result tops c.requires.count c.requires.column c.index-rows-row.is c.tops.ensures stock shows;
    }
