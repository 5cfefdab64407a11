use Rattle.std.proofs.Common.{◌∙◌, sym, ap, map, string_bytes, true≢false, is_some}
use Rattle.std.specs.Prelude.{List, option_map}
use Rattle.clap.specs.Words.{Row}
use Rattle.mill_report_run.specs.Words.{faults, request_in, request_of}
use Rattle.mill_report_run.proofs.Taken.{bounded, refused, taken, taken_asks, whole}
use Rattle.mill_report_run.proofs.words.read_words.Goals as goal

pub unreachable-requires : goal.unreachable-requires
unreachable-requires c = true≢false (sym (ap is_some (taken_asks (map string_bytes c.args.words.now) c.in-Ok.ensures.kinds).1)
    ∙ sym (ap (λ (rows : List Row). is_some (request_in rows)) c.in-Ok.ensures.matches)
    ∙ ap is_some (sym c.asked_of.ensures ∙ ap (option_map request_of) c.in-None.is))

pub returns-in-Err-clause-reads : goal.returns-in-Err-clause-reads
returns-in-Err-clause-reads c = refused (map string_bytes c.args.words.now) c.refusal_of.result (c.refusal_of.ensures (faults (map string_bytes c.args.words.now)) c.in-Err.ensures.kinds)

pub returns-in-Err-clause-whole : goal.returns-in-Err-clause-whole
returns-in-Err-clause-whole c = whole (map string_bytes c.args.words.now)

pub returns-clause-reads : goal.returns-clause-reads
returns-clause-reads c = taken (map string_bytes c.args.words.now) c.in-Ok.ensures.kinds
    ∙ sym (ap request_in c.in-Ok.ensures.matches) ∙ sym c.asked_of.ensures ∙ ap (option_map request_of) c.in-Some.is

pub returns-clause-whole : goal.returns-clause-whole
returns-clause-whole c = whole (map string_bytes c.args.words.now)

pub returns-clause-bounded : goal.returns-clause-bounded
returns-clause-bounded c = bounded (map string_bytes c.args.words.now) c.in-Ok.ensures.kinds (request_of c.in-Some.asked)
    (sym (ap request_in c.in-Ok.ensures.matches) ∙ sym c.asked_of.ensures ∙ ap (option_map request_of) c.in-Some.is)
