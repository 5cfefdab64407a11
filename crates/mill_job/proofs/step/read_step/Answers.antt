use Rattle.std.proofs.Common.{◌≡◌, ◌∙◌, ◌++◌, sym, refl, inl}
use Rattle.std.proofs.lemmas.Result.{err_from_is_err_and}
use Rattle.toml.specs.View.{table_view}
use Rattle.mill_job.specs.Cutters.{cutter_faults, cutter_key_faults, cutter_of}
use Rattle.mill_job.specs.Tables.{first}
use Rattle.mill_job.specs.Steps.{program_of}
use Rattle.mill_job.proofs.StepFaults.{of_cutter, of_fit, taken}
use Rattle.mill_job.proofs.step.read_step.Goals as goal

pub returns-in_err-cutter-clause-err : goal.returns-in_err-cutter-clause-err
returns-in_err-cutter-clause-err c =
    let found = of_cutter c.args.job.now.fields (table_view c.args.table.now) _ c.in_default.ensures c.in_ok-program.ensures.ok.0 c.in_err-cutter.ensures.value in
    let answer = err_from_is_err_and c.from_residual-in_err-cutter.result c.from_residual-in_err-cutter.ensures.1 in
    rw (answer.1, answer.2) (inl found)

pub returns-in-Some-cutter_fault-clause-err : goal.returns-in-Some-cutter_fault-clause-err
returns-in-Some-cutter_fault-clause-err c =
    inl (of_fit c.args.job.now.fields (table_view c.args.table.now) c.in_ok-cutter.cutter c.in_default.ensures c.in_ok-program.ensures.ok.0 c.in_ok-cutter.ensures.value ∙ sym c.in-Some-cutter_fault.ensures.value)

-- With nothing wrong, program and cutter are those that the table gives.
pub returns-clause-ok : goal.returns-clause-ok
returns-clause-ok c =
    let ms = table_view c.args.table.now in
    let fits = of_fit c.args.job.now.fields ms c.in_ok-cutter.cutter c.in_default.ensures c.in_ok-program.ensures.ok.0 c.in_ok-cutter.ensures.value ∙ sym c.in_default-cutter_fault.ensures.value in
    let program : c.in_ok-program.program ≡ program_of ms = c.in_ok-program.ensures.ok.1 in
    let cutter : c.in_ok-cutter.cutter ≡ cutter_of ms = (taken (first (cutter_key_faults ms ++ cutter_faults ms)) (cutter_of ms) c.in_ok-cutter.cutter c.in_ok-cutter.ensures.value).1 in
    (fits, rw (program, cutter) refl)
