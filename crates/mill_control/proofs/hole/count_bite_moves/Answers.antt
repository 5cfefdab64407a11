use Rattle.std.specs.Prelude.{◌≡◌, ℕ, ◌*◌, Bool}
use Rattle.std.proofs.Common.{sym, ap, ◌∙◌, arith}
use Rattle.mill_control.specs.Holes.{count_bites}
use Rattle.mill_control.specs.inner.Bounds.{each_of}
use Rattle.mill_control.proofs.hole.count_bite_moves.Goals as goal

one : (n : ℕ) → n ≡ 1 * n
one n = omega arith

pub returns-then-goes_out-clause-value : goal.returns-then-goes_out-clause-value
returns-then-goes_out-clause-value c =
    ap (λ n. 3 * n) c.count_bites-bites.ensures.value ∙ ap (λ (b : Bool). each_of b * count_bites c.args.hole) (sym (sym c.goes_out.ensures ∙ c.if-goes_out.true))

pub returns-clause-value : goal.returns-clause-value
returns-clause-value c =
    c.count_bites-bites.ensures.value ∙ one (count_bites c.args.hole) ∙ ap (λ (b : Bool). each_of b * count_bites c.args.hole) (sym (sym c.goes_out.ensures ∙ c.if-goes_out.false))
