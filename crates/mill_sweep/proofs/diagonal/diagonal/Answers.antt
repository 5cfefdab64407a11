use Rattle.std.proofs.Common.{◌≡◌, ◌+◌, ◌-◌, ◌*◌, ◌<◌, ◌≤◌, ℕ, refl, subst, arith}
use Rattle.std.proofs.lemmas.Int.{ints}
use Rattle.mill_sweep.proofs.Roots.{sorted_sum}
use Rattle.mill_sweep.proofs.Spans.{diagonal_is, diagonal_small}
use Rattle.mill_sweep.proofs.diagonal.diagonal.Goals as goal

pub returns-clause-value : goal.returns-clause-value
returns-clause-value c =
    let sum : c.max.result * c.max.result + c.min.result * c.min.result ≡ c.args.ex * c.args.ex + c.args.ey * c.args.ey = rw (c.max.ensures, c.min.ensures) (sorted_sum c.args.ex c.args.ey) in
    diagonal_is c.args.ex c.args.ey (c.args.ex * c.args.ex) (c.args.ey * c.args.ey) c.hypotenuse.result c.requires.ex_ok c.requires.ey_ok refl refl
    (subst (λ (n : ℕ). n ≤ c.hypotenuse.result * c.hypotenuse.result) sum c.hypotenuse.ensures.reaches)
    (λ some. subst (λ (n : ℕ). (c.hypotenuse.result - 1) * (c.hypotenuse.result - 1) < n) sum (c.hypotenuse.ensures.least some))

pub returns-clause-bound : goal.returns-clause-bound
returns-clause-bound c = let value = returns-clause-value c in rw value (omega (arith, ints))

pub returns-clause-most : goal.returns-clause-most
returns-clause-most c = let value = returns-clause-value c in let small = diagonal_small c.args.ex c.args.ey c.requires.ex_ok c.requires.ey_ok in rw value (omega (arith, ints))
