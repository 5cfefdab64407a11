use Rattle.std.proofs.Common.{◌≡◌, ◌∙◌, ◌∷◌, [], length, sym, Some, is_some, true, inl, arith}
use Rattle.std.proofs.lemmas.Bool.Decides.{nat_tests}
use Rattle.std.proofs.lemmas.Result.{IfErr-weaker, IfOk-weaker}
use Rattle.toml.specs.View.{items_view}
use Rattle.mill_job.specs.Tables.{kind_fault}
use Rattle.mill_job.specs.declared.fault.JobFault.TheVariants.{Range}
use Rattle.mill_job.specs.declared.key.Key.TheVariants.{Steps}
use Rattle.mill_job.specs.Lists.{all_of, each_fault, is_count, tables}
use Rattle.mill_job.proofs.InTurn.{counted, first-some, length-steps, length-tables, told_behind, too_few, too_many}
use Rattle.mill_job.proofs.tables.steps_in.Goals.{then-is_empty-via-then-is_empty, then-is_empty-via-else-is_empty+then-values-gt-MAX_STEPS}
use Rattle.mill_job.proofs.tables.steps_in.Goals as goal

-- Another number of tables is out of range, before any of them is looked at.
pub returns-then-is_empty-clause-err : goal.returns-then-is_empty-clause-err
returns-then-is_empty-clause-err c =
    let values = c.args.values.now in
    let all = tables (items_view values) in
    let whole : is_some all ≡ true = sym c.are_tables.ensures ∙ c.if-not-are_tables.false in
    let size : length (all_of all) ≡ length values = length-tables values whole in
    let range : kind_fault Steps is_count all ≡ Some (Range Steps) = elim c.then-is_empty.branch [
      | then-is_empty-via-then-is_empty w ↦ too_few all whole (size ∙ grind (arith, nat_tests))
      | then-is_empty-via-else-is_empty+then-values-gt-MAX_STEPS w ↦ too_many all (length values) whole size w.if-values-gt-MAX_STEPS.true
    ] in
    inl (first-some (kind_fault Steps is_count all) (each_fault c.args.job.now.fields (all_of all) ∷ []) (Range Steps) range)

pub returns-clause-count : goal.returns-clause-count
returns-clause-count c =
    let values = c.args.values.now in
    let whole : is_some (tables (items_view values)) ≡ true = sym c.are_tables.ensures ∙ c.if-not-are_tables.false in
    let fine = counted values whole (sym c.is_empty.ensures ∙ c.if-is_empty.false) c.if-values-gt-MAX_STEPS.false in
    IfOk-weaker c.each_step.result _ _ (λ steps read. fine) c.each_step.ensures.ok

pub returns-clause-err : goal.returns-clause-err
returns-clause-err c =
    let values = c.args.values.now in
    let all = tables (items_view values) in
    let whole : is_some all ≡ true = sym c.are_tables.ensures ∙ c.if-not-are_tables.false in
    let fine = counted values whole (sym c.is_empty.ensures ∙ c.if-is_empty.false) c.if-values-gt-MAX_STEPS.false in
    IfErr-weaker c.each_step.result _ _ (λ fault told. told_behind (kind_fault Steps is_count all) (each_fault c.args.job.now.fields (all_of all)) fault fine told) c.each_step.ensures.err

pub returns-clause-some : goal.returns-clause-some
returns-clause-some c =
    let values = c.args.values.now in
    let whole : is_some (tables (items_view values)) ≡ true = sym c.are_tables.ensures ∙ c.if-not-are_tables.false in
    IfOk-weaker c.each_step.result _ _ (λ steps read. grind (arith, nat_tests, length-steps values steps.items whole read.1)) c.each_step.ensures.ok

pub returns-clause-few : goal.returns-clause-few
returns-clause-few c =
    let values = c.args.values.now in
    let whole : is_some (tables (items_view values)) ≡ true = sym c.are_tables.ensures ∙ c.if-not-are_tables.false in
    IfOk-weaker c.each_step.result _ _ (λ steps read. omega (arith, length-steps values steps.items whole read.1, c.if-values-gt-MAX_STEPS.false)) c.each_step.ensures.ok
