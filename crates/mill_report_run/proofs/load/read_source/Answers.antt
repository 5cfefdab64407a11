use Rattle.std.proofs.Common.{ℕ, ◌≤◌, List, length, sym, subst}
use Rattle.std.proofs.lemmas.Result.{IfOk-weaker}
use Rattle.mill_load.proofs.Reading.{none_failed}
use Rattle.mill_load.specs.Setup.{most_bytes}
use Rattle.mill_report_run.proofs.Loading.{loads_with, source_read}
use Rattle.mill_report_run.proofs.load.read_source.Goals as goal

pub returns-in-Ok-clause-told : goal.returns-in-Ok-clause-told
returns-in-Ok-clause-told g c = λ contents held.
    source_read (contents c.args.name.now) c.args.file c.in-Ok.text.items c.source_of.result (c.in-Ok.ensures.told contents held) c.source_of.ensures.text c.source_of.ensures.memory

pub returns-in-Ok-clause-fits : goal.returns-in-Ok-clause-fits
returns-in-Ok-clause-fits g c = IfOk-weaker c.source_of.result _ _ (λ source is. subst (λ (text : List ℕ). length text ≤ most_bytes c.args.file) (sym is) c.in-Ok.ensures.fits) c.source_of.ensures.text

pub returns-in-Ok-clause-store : goal.returns-in-Ok-clause-store
returns-in-Ok-clause-store g c = loads_with _ _ _ c.source_of.result c.in-Ok.ensures.store c.source_of.ensures.cause

pub returns-in-Err-clause-told : goal.returns-in-Err-clause-told
returns-in-Err-clause-told g c = c.in-Err.ensures.told

pub returns-in-Ok-clause-failed : goal.returns-in-Ok-clause-failed
returns-in-Ok-clause-failed g c = λ names same. none_failed names _ c.source_of.result c.source_of.ensures.cause

pub returns-in-Err-clause-failed : goal.returns-in-Err-clause-failed
returns-in-Err-clause-failed g c = λ names same. c.in-Err.ensures.failed names same
