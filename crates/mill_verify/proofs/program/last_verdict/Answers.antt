use mir.Syntax.{w32}
use Rattle.std.proofs.Common.{FitsSigned, rules, refl}
use Rattle.std.proofs.lemmas.Int.{to_z-of_z}
use Rattle.mill_verify.proofs.program.last_verdict.Goals as goal

pub returns-in-Ok-clause-verdict : goal.returns-in-Ok-clause-verdict
returns-in-Ok-clause-verdict c = λ part good told.
    let left = rw c.in-Ok.is at told in
    let fits : FitsSigned w32 c.in-Ok.most_left = search rules in
    rw (to_z-of_z w32 c.in-Ok.most_left fits) (record { good = good; cut = left.cut; all_moves = refl; all_columns = c.column_total.ensures.value; most = left.most })

pub returns-in-Err-clause-verdict : goal.returns-in-Err-clause-verdict
returns-in-Err-clause-verdict c = λ part good told.
    let first = rw c.in-Err.is at told in
    let fits : FitsSigned w32 c.in-Err.field-0.top = search rules in
    rw (to_z-of_z w32 c.in-Err.field-0.top fits) (record { before = good; column = first.column; first = first.first; fails = first.fails; shown = first.shown })
