use Rattle.std.proofs.Common.{Ok, ap}
use Rattle.mill_base.proofs.Ranges.{moves_of_unit}
use Rattle.mill_answer.proofs.Named.{is_safe}
use Rattle.mill_report_run.proofs.whole.judged.Goals as goal

pub verify-requires-clause-moves_ok : goal.verify-requires-clause-moves_ok
verify-requires-clause-moves_ok g c = moves_of_unit c.args.job.now.fields.unit c.args.moves.now c.requires.moves_ok.in_range

pub returns : goal.returns
returns g c = record {
  verdict_is = c.in_ok-verdict.ensures.verdict;
  safe = is_safe c.args.job.now.fields c.args.part.now c.args.moves.now c.in_ok-verdict.verdict (λ count columns left e. c.in_ok-verdict.ensures.safe count columns left (ap Ok e));
}
