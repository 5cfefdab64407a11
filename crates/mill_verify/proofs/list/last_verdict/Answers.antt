use mir.Syntax.{w32}
use Rattle.std.proofs.Common.{FitsSigned, rules, refl}
use Rattle.std.proofs.lemmas.Int.{to_z-of_z}
use Rattle.mill_dexel.specs.Tops.{uncut}
use Rattle.mill_dexel.proofs.TopLaws.{uncut_stays}
use Rattle.mill_verify.specs.Files.{after_files}
use Rattle.mill_verify.proofs.Filed.{files_stay}
use Rattle.mill_verify.proofs.Starts.{shown_rows}
use Rattle.mill_verify.proofs.list.last_verdict.Goals as goal

pub stock_left-requires-clause-rows_ok : goal.stock_left-requires-clause-rows_ok
stock_left-requires-clause-rows_ok g c =
    shown_rows c.args.job.now.fields (after_files c.args.job.now.fields (uncut c.args.job.now.fields) c.args.files.now) c.args.rows.now
    (files_stay c.args.job.now.fields (uncut c.args.job.now.fields) c.args.files.now (uncut_stays c.args.job.now.fields c.args.job.now.is_job.stock)) c.requires.passed.shows

pub returns-in-Ok-clause-verdict : goal.returns-in-Ok-clause-verdict
returns-in-Ok-clause-verdict g c =
    let left = c.in-Ok.ensures (after_files c.args.job.now.fields (uncut c.args.job.now.fields) c.args.files.now) c.requires.passed.shows in
    let fits : FitsSigned w32 c.in-Ok.most_left = search rules in
    rw (to_z-of_z w32 c.in-Ok.most_left fits) (record {
      good = c.requires.passed.good;
      cut = left.cut;
      all_files = refl;
      all_moves = c.moves_of.ensures;
      all_columns = c.column_total.ensures.value;
      most = left.most;
    })
