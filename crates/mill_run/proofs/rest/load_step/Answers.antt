use Rattle.std.proofs.Common.{ℕ, List, Err, refl, subst, sym}
use Rattle.mill_base.proofs.Ranges.{moves_of_unit}
use Rattle.mill_load.specs.declared.file.File.TheVariants.{StepProgram}
use Rattle.mill_load.specs.Loads.{LoadsProgram}
use Rattle.mill_run.proofs.Rests.{go_on}
use Rattle.mill_run.proofs.rest.load_step.Goals as goal

pub returns-in-Ok-clause-read : goal.returns-in-Ok-clause-read
returns-in-Ok-clause-read g c = λ contents held. record { cutter_is = refl; moves_are = rw c.as_str-program.ensures at (c.in-Ok.ensures.told contents held) }

pub returns-in-Ok-clause-ready : goal.returns-in-Ok-clause-ready
returns-in-Ok-clause-ready g c =
    let moves = c.in-Ok.ensures.ready in
    record { fits = c.requires; moves_ok = moves_of_unit c.args.job.now.fields.unit c.in-Ok.moves.items moves.in_range; follow = go_on c.args.job.now.fields c.in-Ok.moves.items moves.follow; few = moves.few }

pub returns-in-Err-clause-failed : goal.returns-in-Err-clause-failed
returns-in-Err-clause-failed g c = c.in-Err.ensures.failed (λ file. c.args.step.now.program) (sym c.as_str-program.ensures)

pub returns-in-Err-clause-fault : goal.returns-in-Err-clause-fault
returns-in-Err-clause-fault g c = λ contents held.
    subst (λ (name : List ℕ). LoadsProgram c.args.job.now.fields (contents name) (StepProgram c.args.number) (Err c.in-Err.fault)) c.as_str-program.ensures (c.in-Err.ensures.told contents held)
