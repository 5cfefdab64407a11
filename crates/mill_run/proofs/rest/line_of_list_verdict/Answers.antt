use Rattle.std.proofs.Common.{◌≡◌, ℕ, List, ◌∷◌, ap, codes, decimal, subst, sym, ◌∙◌}
use Rattle.std.specs.Prelude.{IfOk}
use Rattle.mill_answer.specs.Lines.{line}
use Rattle.mill_answer.specs.Verify.{NamesMove, reason_words}
use Rattle.mill_base.specs.declared.motion.Move.{Move}
use Rattle.mill_verify.specs.Files.{File as CutFile, file_at}
use Rattle.mill_run.proofs.Rests.{moves_at}
use Rattle.mill_run.proofs.rest.line_of_list_verdict.Goals as goal

pub line_of_reason-requires : goal.line_of_reason-requires
line_of_reason-requires c =
    let named = rw c.in-Reject.is at c.requires in
    let moves =
    moves_at c.args.files.now c.in-Reject.file c.index-files-file.result c.deref.result.now named.0 c.index-files-file.is (c.deref.ensures.value ∙ ap (λ (x : CutFile). x.moves) c.rejected.view_is) in
    subst (λ (ms : List Move). NamesMove ms c.in-Reject.reason) (sym moves) named.1

pub returns-in-Reject : goal.returns-in-Reject
returns-in-Reject c =
    let named = rw c.in-Reject.is at c.requires in
    let moves =
    moves_at c.args.files.now c.in-Reject.file c.index-files-file.result c.deref.result.now named.0 c.index-files-file.is (c.deref.ensures.value ∙ ap (λ (x : CutFile). x.moves) c.rejected.view_is) in
    let says : ℕ → List Move → Type 0 =
    λ number ms. IfOk c.line_of_reason.result (λ made. made.items ≡ line (codes "rejected" ∷ codes "file" ∷ decimal number ∷ reason_words c.args.job.now.fields.unit ms c.in-Reject.reason)) in
    rw c.in-Reject.is
    (subst (λ (number : ℕ). says number (file_at c.args.files.now c.in-Reject.file).moves) c.from.ensures
    (subst (λ (ms : List Move). says c.from.result ms) moves c.line_of_reason.ensures))
