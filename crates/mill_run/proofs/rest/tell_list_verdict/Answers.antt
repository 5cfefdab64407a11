use Rattle.std.proofs.Common.{ap, inl}
use Rattle.std.specs.Prelude.{Ok}
use Rattle.mill_run.proofs.Named.{files_told}
use Rattle.mill_run.proofs.rest.tell_list_verdict.Goals as goal

pub verify_list-requires-clause-files_ok : goal.verify_list-requires-clause-files_ok
verify_list-requires-clause-files_ok g c = rw c.deref.ensures.value c.requires.ready.files_ok

pub tell_line_of_list-requires-clause-names : goal.tell_line_of_list-requires-clause-names
tell_line_of_list-requires-clause-names g c =
    let listed = c.args.listed.now in
    let t = files_told listed.job.fields listed.part listed.files.items c.deref.result.now c.in-Ok.verdict c.deref.ensures.value c.in-Ok.ensures.verdict
    (λ count moves columns left e. c.in-Ok.ensures.safe count moves columns left (ap Ok e)) (λ f reason e. c.in-Ok.ensures.blocked f reason (ap Ok e)) in
    t.there

pub returns-in-Ok : goal.returns-in-Ok
returns-in-Ok g c =
    let listed = c.args.listed.now in
    let t = files_told listed.job.fields listed.part listed.files.items c.deref.result.now c.in-Ok.verdict c.deref.ensures.value c.in-Ok.ensures.verdict
    (λ count moves columns left e. c.in-Ok.ensures.safe count moves columns left (ap Ok e)) (λ f reason e. c.in-Ok.ensures.blocked f reason (ap Ok e)) in
    inl (record { verdict = c.in-Ok.verdict; is = t.is; safe = t.safe; named = t.named; printed = c.tell_line_of_list.ensures })
