use Rattle.std.proofs.Common.{ℕ, List, [], ◌∷◌, ◌++◌, ap, sym, ◌∙◌}
use Rattle.mill_report_run.proofs.Reporting.{move_there, reports}
use Rattle.mill_report_run.specs.inner.Sources.{texts_of_sources}
use Rattle.mill_report_run.proofs.whole.report_of_verdict.Goals as goal

pub verdict_words-requires : goal.verdict_words-requires
verdict_words-requires g c = move_there c.args.job.now.fields c.args.part.now c.args.moves.now c.args.verdict c.requires.judged.verdict_is

pub returns : goal.returns
returns g c =
    reports (texts_of_sources c.args.sources) c.args.job.now.fields c.args.part.now c.args.moves.now c.args.verdict c.in_ok-lists.lists c.deref.result.now c.in_ok-text.text.items _ c.requires.read c.requires.judged.verdict_is c.requires.judged.safe
    c.in_ok-lists.ensures (c.in_ok-line.ensures ∙ ap (λ (line : List ℕ). line ++ 10 ∷ []) (sym c.deref.ensures.value)) (rw c.sums_of-sums.ensures at c.in_ok-text.ensures) c.status_of_verdict.ensures
