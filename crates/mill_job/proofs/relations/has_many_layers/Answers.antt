use Rattle.std.proofs.Common.{◌≡◌, true, false, refl, arith, rules}
use Rattle.std.proofs.lemmas.Int.{ints}
use Rattle.std.specs.Prelude.{pos, ◌-ℤ◌, ◌*ℤ◌, int_lt}
use Rattle.mill_job.proofs.Stored.{stored_layers, stored_height}
use Rattle.mill_job.proofs.relations.has_many_layers.Goals as goal

-- Neither the product nor the difference leaves its type.
pub returns-then-job-gt0-clause-value : goal.returns-then-job-gt0-clause-value
returns-then-job-gt0-clause-value c =
    let job = c.args.job.now in
    let roughs : int_lt (pos 0) job.layer ≡ true = search rules in
    rw (stored_layers job.unit c.requires.layer_ok, stored_height job.unit c.requires.top_ok c.requires.floor_ok, roughs) refl

pub returns-then-job-gt0-clause-no : goal.returns-then-job-gt0-clause-no
returns-then-job-gt0-clause-no c = λ few roughs.
    let job = c.args.job.now in
    let within : int_lt (pos 1000 *ℤ job.layer) (job.top -ℤ job.floor) ≡ false =
    rw (← stored_layers job.unit c.requires.layer_ok, ← stored_height job.unit c.requires.top_ok c.requires.floor_ok) few in
    grind (arith, ints)
