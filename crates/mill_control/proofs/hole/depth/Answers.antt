use Rattle.std.specs.Prelude.{◌≡◌}
use Rattle.std.proofs.Common.{sym, ap, ◌∙◌, subst, rules, w32, to_z, of_z}
use mir.Syntax.{w128}
use Rattle.mill_base.specs.Numbers.{Within}
use Rattle.mill_base.specs.Units.{greatest_of}
use Rattle.mill_control.specs.Holes.{depth_at, per_of}
use Rattle.mill_control.specs.Lengths.{rounded_parts}
use Rattle.mill_control.proofs.Depths.{depth-within}
use Rattle.std.proofs.lemmas.Int.{to_z-of_z}
use Rattle.mill_control.proofs.hole.depth.Goals as goal

pub narrow-requires : goal.narrow-requires
narrow-requires c =
    let h = c.args.hole in
    let height : c.rounded_parts.result ≡ depth_at h c.args.bite =
    c.rounded_parts.ensures ∙ ap (λ p. rounded_parts p (to_z w128 (of_z w128 c.parts_behind-parts.result))) c.per.ensures.value ∙ ap (λ z. rounded_parts (per_of h) z) (to_z-of_z w128 c.parts_behind-parts.result (search rules) ∙ c.parts_behind-parts.ensures.value) in
    subst (λ z. Within (greatest_of h.unit) z) (sym (to_z-of_z w128 c.rounded_parts.result (search rules) ∙ height)) (depth-within h c.requires.hole c.args.bite c.requires.some c.requires.over)

pub returns-clause-value : goal.returns-clause-value
returns-clause-value c =
    let h = c.args.hole in
    to_z-of_z w32 c.narrow.result (search rules) ∙ c.narrow.ensures ∙ to_z-of_z w128 c.rounded_parts.result (search rules) ∙ c.rounded_parts.ensures ∙ ap (λ p. rounded_parts p (to_z w128 (of_z w128 c.parts_behind-parts.result))) c.per.ensures.value
    ∙ ap (λ z. rounded_parts (per_of h) z) (to_z-of_z w128 c.parts_behind-parts.result (search rules) ∙ c.parts_behind-parts.ensures.value)

pub returns-clause-in_range : goal.returns-clause-in_range
returns-clause-in_range c =
    let h = c.args.hole in
    let height : c.narrow.result ≡ depth_at h c.args.bite =
    c.narrow.ensures ∙ to_z-of_z w128 c.rounded_parts.result (search rules) ∙ c.rounded_parts.ensures ∙ ap (λ p. rounded_parts p (to_z w128 (of_z w128 c.parts_behind-parts.result))) c.per.ensures.value
    ∙ ap (λ z. rounded_parts (per_of h) z) (to_z-of_z w128 c.parts_behind-parts.result (search rules) ∙ c.parts_behind-parts.ensures.value) in
    subst (λ z. Within (greatest_of h.unit) z) (sym (to_z-of_z w32 c.narrow.result (search rules) ∙ height)) (depth-within h c.requires.hole c.args.bite c.requires.some c.requires.over)
