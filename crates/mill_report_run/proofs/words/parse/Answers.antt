use Rattle.std.proofs.Common.{map, string_bytes, subst, ◌≡◌, true}
use Rattle.std.proofs.lemmas.Result.{IfOk-weaker}
use Rattle.clap.specs.Words.{App, FailsBy, fault_of, found_of, is_simple, is_simple_and_free, matches_of, rows_of}
use Rattle.mill_report_run.proofs.Taken.{are_plain, are_simple}
use Rattle.mill_report_run.proofs.words.parse.Goals as goal

pub returns-clause-kinds : goal.returns-clause-kinds
returns-clause-kinds c =
    subst (λ (app : App). is_simple_and_free app ≡ true → FailsBy (fault_of app (map string_bytes c.args.words.now)) c.try_get_matches_from.result) c.in_ok-command.ensures.0
    c.try_get_matches_from.ensures.kinds are_simple

pub returns-clause-matches : goal.returns-clause-matches
returns-clause-matches c =
    IfOk-weaker c.try_get_matches_from.result _ _
    (λ m h. subst (λ (app : App). is_simple app ≡ true → rows_of (found_of m) ≡ matches_of app (map string_bytes c.args.words.now)) c.in_ok-command.ensures.0 (λ plain. (h plain).0) are_plain)
    c.try_get_matches_from.ensures.matches
