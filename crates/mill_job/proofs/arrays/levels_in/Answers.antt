use Rattle.std.proofs.Common.{◌∙◌, sym}
use Rattle.toml.specs.View.{items_view}
use Rattle.mill_job.specs.Tables.{integers, are_levels, kind_fault, levels_of}
use Rattle.mill_job.specs.declared.key.Key.TheVariants.{Levels}
use Rattle.mill_job.specs.inner.Ranged.{AreInOrder}
use Rattle.mill_job.proofs.Faults.{if_ok}
use Rattle.mill_job.proofs.InOrder.{are_in_order, too_many}
use Rattle.mill_job.proofs.Numbers.{length-integers}
use Rattle.mill_job.proofs.arrays.levels_in.Goals as goal

pub returns-then-values-gt-MAX_LEVELS-clause-value : goal.returns-then-values-gt-MAX_LEVELS-clause-value
returns-then-values-gt-MAX_LEVELS-clause-value c =
    too_many c.args.unit (integers (items_view c.args.values.now)) (λ zs e. rw (length-integers c.args.values.now zs e) c.if-values-gt-MAX_LEVELS.true) (sym c.are_integers.ensures ∙ c.if-not-are_integers.false)

pub returns-clause-in_order : goal.returns-clause-in_order
returns-clause-in_order c =
    let numbers = integers (items_view c.args.values.now) in
    rw c.falling.ensures (if_ok (kind_fault Levels (are_levels c.args.unit) numbers) (levels_of numbers) AreInOrder (are_in_order c.args.unit numbers))
