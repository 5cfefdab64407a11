use Rattle.std.proofs.Common.{rules, ◌∙◌, w32, arith}
use Rattle.std.proofs.lemmas.Int.{ints, to_z-of_z}
use Rattle.mill_links.specs.Links.{descend}
use Rattle.mill_links.proofs.Kept.{unit_coordinate}
use Rattle.mill_links.proofs.Stages.{no_descend, none_added}
use Rattle.mill_links.proofs.links.descend.Goals as goal

pub returns-then-low-job-clause-ok : goal.returns-then-low-job-clause-ok
returns-then-low-job-clause-ok c =
    let job = c.args.job.now.fields in
    let low = to_z-of_z w32 c.over_stock-low.result (search rules) ∙ c.over_stock-low.ensures.value in
    let clear = unit_coordinate job.unit job.clear c.args.job.now.is_job.clear_ok in
    let test = rw (low, clear) at c.if-low-job.true in
    none_added c.args.out.now.items (descend job c.args.at) (no_descend job c.args.at (omega (test, arith, ints)))
