-- The position lies between the first and the last, so the sum keeps its value and its range.
use Rattle.std.proofs.Common.{◌∙◌, ap, arith}
use Rattle.std.proofs.lemmas.Int.{ints}
use Rattle.std.specs.Prelude.{ℤ, pos, ◌+ℤ◌, ◌*ℤ◌}
use Rattle.mill_job.proofs.positions.position.Goals as goal

pub returns-clause-value : goal.returns-clause-value
returns-clause-value c =
    omega (arith, ints) ∙ ap (λ (t : ℤ). c.args.first +ℤ t) (c.steps.ensures.value ∙ ap (λ (t : ℤ). pos c.args.index *ℤ t) (omega (arith, ints)))

pub returns-clause-low : goal.returns-clause-low
returns-clause-low c = omega (arith, ints)

pub returns-clause-high : goal.returns-clause-high
returns-clause-high c = omega (arith, ints)
