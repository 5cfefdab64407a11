use Rattle.std.proofs.Common.{subst, sym}
use Rattle.std.specs.Prelude.{All}
use Rattle.std.proofs.lemmas.List.Elements.{All-push}
use Rattle.mill_verify.specs.Files.{IsFileOf}
use Rattle.mill_verify_tests.proofs.list.files_of.Goals as goal

pub loop-each-preserved : goal.loop-each-preserved
loop-each-preserved c = subst (All (IsFileOf c.args.job.now.fields)) (sym c.in_ok-push.ensures.items) (All-push (IsFileOf c.args.job.now.fields) c.loop-each.files.items c.in_ok-file.field-0 c.loop-each.invariant c.in_ok-file.ensures)
