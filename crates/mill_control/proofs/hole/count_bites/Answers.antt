use Rattle.std.specs.Prelude.{◌-ℤ◌, nat_abs}
use Rattle.std.proofs.Common.{sym, ap, ◌∙◌}
use Rattle.mill_control.specs.Holes.{bites_over}
use Rattle.mill_control.specs.Lengths.{exact}
use Rattle.mill_control.proofs.Depths.{count-none, count-some}
use Rattle.mill_control.proofs.hole.count_bites.Goals as goal

pub returns-then-pecks-clause-value : goal.returns-then-pecks-clause-value
returns-then-pecks-clause-value c =
    let h = c.args.hole in
    c.bites_over.ensures.value ∙ ap (λ d. bites_over d c.bite_size.result) c.whole_depth.ensures.value
    ∙ ap (λ b. bites_over (nat_abs (exact h.r -ℤ exact h.z)) b) c.bite_size.ensures.value ∙ sym (count-some h (sym c.pecks.ensures ∙ c.if-pecks.true))

pub returns-clause-value : goal.returns-clause-value
returns-clause-value c = sym (count-none c.args.hole (sym c.pecks.ensures ∙ c.if-pecks.false))
