use Rattle.std.proofs.Common.{◌≢◌, length, arith}
use Rattle.mill_job.specs.Tables.{integers, is_place, place_of}
use Rattle.toml.specs.View.{items_view}
use Rattle.mill_job.specs.declared.key.Key.TheVariants.{Home}
use Rattle.mill_job.proofs.Numbers.{misfits, is_place-other}
use Rattle.mill_job.proofs.arrays.place_in.Goals as goal

pub returns-then-values-ne2-clause-value : goal.returns-then-values-ne2-clause-value
returns-then-values-ne2-clause-value c =
    let other : length c.args.values.now ≢ 2 = λ same. omega arith in
    rw c.misfit.ensures (misfits Home (is_place c.args.unit) 2 (is_place-other c.args.unit) c.args.values.now other (place_of (integers (items_view c.args.values.now))))
