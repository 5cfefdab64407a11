use Rattle.std.proofs.Common.{inl, ap}
use Rattle.std.specs.Prelude.{Ok}
use Rattle.mill_base.proofs.Ranges.{moves_of_unit}
use Rattle.mill_answer.proofs.Named.{told}
use Rattle.mill_run.proofs.verify.tell_verdict.Goals as goal

pub verdict_on-requires-clause-moves_ok : goal.verdict_on-requires-clause-moves_ok
verdict_on-requires-clause-moves_ok g c κs within = rw c.deref.ensures.value (moves_of_unit c.args.loaded.now.job.fields.unit c.args.loaded.now.moves.items c.requires.ready.moves_ok.in_range)

pub returns-in-Ok : goal.returns-in-Ok
returns-in-Ok g c =
    let t = told c.args.loaded.now.job.fields c.args.loaded.now.part c.args.loaded.now.moves.items c.deref.result.now c.in-Ok.verdict c.deref.ensures.value c.in-Ok.ensures.verdict
    (λ count columns left e. c.in-Ok.ensures.safe count columns left (ap Ok e)) (λ reason e. c.in-Ok.ensures.blocked reason (ap Ok e)) in
    inl (record { verdict = c.in-Ok.verdict; is = t.is; safe = t.safe; named = t.named; printed = c.tell_line_of.ensures })
