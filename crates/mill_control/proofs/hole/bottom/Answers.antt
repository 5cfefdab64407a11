use Rattle.std.specs.Prelude.{◌≡◌}
use Rattle.std.proofs.Common.{sym, ap, ◌∙◌, subst, rules, w32}
use mir.Syntax.{w128}
use Rattle.mill_base.specs.Numbers.{Within}
use Rattle.mill_base.specs.Units.{greatest_of}
use Rattle.mill_control.specs.Holes.{bottom_of}
use Rattle.mill_control.specs.Lengths.{rounded}
use Rattle.std.proofs.lemmas.Int.{to_z-of_z}
use Rattle.mill_control.proofs.hole.bottom.Goals as goal

pub narrow-requires : goal.narrow-requires
narrow-requires c =
    let h = c.args.hole in
    let height : c.rounded.result ≡ bottom_of h = c.rounded.ensures ∙ ap (λ p. rounded p h.z) c.per.ensures.value in
    subst (λ z. Within (greatest_of h.unit) z) (sym (to_z-of_z w128 c.rounded.result (search rules) ∙ height)) c.requires.bottom

pub returns : goal.returns
returns c = to_z-of_z w32 c.narrow.result (search rules) ∙ c.narrow.ensures ∙ to_z-of_z w128 c.rounded.result (search rules) ∙ c.rounded.ensures ∙ ap (λ p. rounded p c.args.hole.z) c.per.ensures.value
