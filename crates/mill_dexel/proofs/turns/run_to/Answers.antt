use Rattle.std.proofs.Common.{◌≡◌, None, rules}
use Rattle.mill_dexel.proofs.Blocks.{over_is_up_to}
use Rattle.mill_dexel.proofs.turns.run_to.Goals as goal

pub returns-then-pass_over : goal.returns-then-pass_over
returns-then-pass_over c =
    let unfailed : c.args.row.now.failed ≡ None = search rules in
    over_is_up_to c.args.job.now.fields c.args.moves.now c.args.band.now c.args.row.now c.pass_over.new.self c.args.job.now.is_job c.requires.moves_ok c.requires.row unfailed c.requires.there c.requires.band
    (c.pass_over.ensures.passed (search rules))
