use Rattle.std.proofs.Common.{◌≡◌, rules}
use Rattle.toml.specs.View.{table_view, items_view}
use Rattle.mill_job.specs.Tables.{array_fault, area_of, integers, is_area, kind_fault}
use Rattle.mill_job.specs.declared.key.Key.TheVariants.{Area}
use Rattle.mill_job.proofs.Faults.{if_err}
use Rattle.mill_job.proofs.arrays.area.Goals as goal

-- The array's fault is that of its whole numbers.
pub returns-clause-err : goal.returns-clause-err
unfolding array_fault
returns-clause-err c =
    let numbers = integers (items_view c.deref.result.now) in
    let same : array_fault Area (is_area c.args.unit) (table_view c.args.table.now) ≡ kind_fault Area (is_area c.args.unit) numbers = search rules in
    rw (c.area_in.ensures.value, same) (if_err (kind_fault Area (is_area c.args.unit) numbers) (area_of numbers))
