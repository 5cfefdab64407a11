use Rattle.std.proofs.Common.{◌∙◌, ap, sym, length}
use Rattle.std.proofs.lemmas.Result.{IfOk-weaker}
use Rattle.mill_load.proofs.Bending.{run_length}
use Rattle.mill_report_run.proofs.failing.places_of.Goals as goal

pub returns-clause-all : goal.returns-clause-all
returns-clause-all c =
    IfOk-weaker c.places.result _ _
    (λ places all moves says. all says.read (rw (c.home.ensures.value, c.rules_for.ensures, c.text.ensures) says.reads) ∙ sym (ap length says.made ∙ run_length c.args.job.now.fields.rapids says.read))
    c.places.ensures.all
