use Rattle.std.specs.Prelude.{◌≡◌, ◌*◌, ◌^◌, ◌-ℤ◌, pos}
use Rattle.std.proofs.Common.{sym, ap, ◌∙◌, subst, rules}
use mir.Syntax.{w128}
use Rattle.mill_base.specs.Numbers.{Within}
use Rattle.mill_control.specs.Holes.{bite_of}
use Rattle.mill_control.specs.Lengths.{exact}
use Rattle.mill_control.proofs.Depths.{parts-few}
use Rattle.std.proofs.lemmas.Int.{to_z-of_z}
use Rattle.mill_control.proofs.hole.parts_behind.Goals as goal

pub returns-clause-value : goal.returns-clause-value
returns-clause-value c =
    let h = c.args.hole in
    to_z-of_z w128 c.minus.result (search rules) ∙ c.minus.ensures ∙ ap (λ r. r -ℤ pos c.bitten_away.result) (to_z-of_z w128 c.exact.result (search rules) ∙ c.exact.ensures.value) ∙ ap (λ n. exact h.r -ℤ pos n) c.bitten_away.ensures.value

pub returns-clause-few : goal.returns-clause-few
returns-clause-few c =
    let h = c.args.hole in
    let parts : c.minus.result ≡ exact h.r -ℤ pos (c.args.bite * bite_of h.q) =
    c.minus.ensures ∙ ap (λ r. r -ℤ pos c.bitten_away.result) (to_z-of_z w128 c.exact.result (search rules) ∙ c.exact.ensures.value) ∙ ap (λ n. exact h.r -ℤ pos n) c.bitten_away.ensures.value in
    subst (λ z. Within (10 ^ 26) z) (sym (to_z-of_z w128 c.minus.result (search rules) ∙ parts)) (parts-few h c.requires.hole c.args.bite c.requires.some c.requires.over)
