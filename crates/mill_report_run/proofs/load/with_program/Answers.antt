use Rattle.std.proofs.Common.{ℕ, List, Some, Result, Err, subst}
use Rattle.std.specs.Global.{Vec}
use Rattle.mill_base.specs.declared.motion.Move.{Move}
use Rattle.mill_load.specs.Loads.{LoadsProgram}
use Rattle.mill_load.specs.declared.file.File.TheVariants.{Program as ProgramFile}
use Rattle.mill_load.specs.declared.load.LoadFault.{LoadFault}
use Rattle.mill_report_run.proofs.Loading.{both_read, no_moves, no_text_moves}
use Rattle.mill_report_run.proofs.load.with_program.Goals as goal

pub returns-in-Ok-clause-told : goal.returns-in-Ok-clause-told
returns-in-Ok-clause-told c = λ told agree same. record { job = agree.job; part = agree.part; program = same }

pub returns-in-Ok-clause-ready : goal.returns-in-Ok-clause-ready
returns-in-Ok-clause-ready c =
    let setup = c.requires.ready in
    record {
      moves_ok = c.in-Ok.ensures.ready;
      read = record { job_is = setup.job_is; part_is = setup.part_is; under = setup.under; moves_are = rw c.text.ensures at c.in-Ok.ensures.told };
    }

pub returns-in-Err-clause-told : goal.returns-in-Err-clause-told
returns-in-Err-clause-told c = λ told agree same.
    no_moves told c.args.before.setup.job.fields c.args.before.setup.part c.in-Err.fault (both_read told c.args.before agree c.requires.ready)
    (no_text_moves c.args.before.setup.job.fields told.program c.args.source c.in-Err.fault same
    (subst (λ (text : List ℕ). (let r : Result (Vec Move) LoadFault = Err c.in-Err.fault in LoadsProgram c.args.before.setup.job.fields (Some text) ProgramFile r)) c.text.ensures c.in-Err.ensures.told))
