use Rattle.std.proofs.Common.{ℕ, List, Option, Err, refl}
use Rattle.mill_load.proofs.Reading.{joined_under}
use Rattle.mill_load.specs.Setup.{IsPartText}
use Rattle.mill_report_run.proofs.Loading.{if_told, joined_holds}
use Rattle.mill_report_run.proofs.load.joined.Goals as goal

pub returns-in-Ok-clause-told : goal.returns-in-Ok-clause-told
returns-in-Ok-clause-told c = λ told same. record { stays = refl; same = same }

pub returns-in-Ok-clause-ready : goal.returns-in-Ok-clause-ready
returns-in-Ok-clause-ready c = joined_holds c.args.before c.args.part _ c.requires.ready c.requires.part_is refl c.in-Ok.ensures.ready c.in-Ok.ensures.told

pub returns-in-Err-clause-told : goal.returns-in-Err-clause-told
returns-in-Err-clause-told c = λ (told : Option (List ℕ)) same.
    joined_under c.args.before.job.fields told c.args.part (Err c.in-Err.fault)
    (if_told (λ (text : List ℕ). IsPartText c.args.before.job.fields text c.args.part) told c.args.source same c.requires.part_is) c.in-Err.ensures.told
