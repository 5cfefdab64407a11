use Rattle.std.specs.Prelude.{map}
use Rattle.mill_base.proofs.Ranges.{moves_of_unit}
use Rattle.mill_load.specs.Programs.{dialect_of}
use Rattle.mill_load.proofs.Asked.{asks_start, may_have}
use Rattle.mill_ngc.specs.Writing.{as_written}
use Rattle.mill_run.proofs.Samples.{plan_verdict}
use Rattle.mill_run.proofs.sample.verified.Goals as goal

pub returns : goal.returns
returns g c =
    let planned = c.args.planned.now in
    plan_verdict c.one_verdict.ensures c.args.job.now.fields c.args.part.now planned.program.items planned.moves planned.columns planned.most_left c.in_ok-moves.moves.items c.verdict_on.result c.args.job.now.is_job c.requires.planned_ok c.requires.still
    (rw c.deref.ensures.value at c.in_ok-moves.ensures.told) (rw c.deref-2.ensures.value at c.verdict_on.ensures.verdict)

pub read_back-requires : goal.read_back-requires
read_back-requires g c = (
  map as_written c.requires.planned_ok.moves,
  rw (c.deref.ensures.value, asks_start c.args.job.now.fields c.requires.still)
      (c.requires.planned_ok.reads (dialect_of c.args.job.now.fields.words c.args.job.now.fields) (may_have c.args.job.now.fields c.args.job.now.is_job)),
)

pub verdict_on-requires-clause-moves_ok : goal.verdict_on-requires-clause-moves_ok
verdict_on-requires-clause-moves_ok g c κs within = rw c.deref-2.ensures.value (moves_of_unit c.args.job.now.fields.unit c.in_ok-moves.moves.items c.in_ok-moves.ensures.ready.in_range)
