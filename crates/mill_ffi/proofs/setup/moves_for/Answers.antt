use Rattle.std.proofs.Common.{subst, sym}
use Rattle.mill_load.proofs.Bending.{run_sound}
use Rattle.mill_job.specs.Columns.{home}
use Rattle.mill_load.specs.Programs.{rules_of}
use Rattle.mill_ngc.specs.Pieces.{AreSound}
use Rattle.mill_ffi.proofs.setup.moves_for.Goals as goal

-- The moves that the machine makes of sound ones are sound.
pub returns-in-Ok-clause-sound : goal.returns-in-Ok-clause-sound
returns-in-Ok-clause-sound c =
    let job = c.args.job.now.fields in
    subst (AreSound (home job) job.unit (rules_of job)) (sym c.run_moves.ensures)
    (run_sound job.rapids (home job) job.unit (rules_of job) c.in-Ok.moves.items (rw (← c.home.ensures.value, ← c.rules_for.ensures) c.in-Ok.ensures.sound))
