use Rattle.std.specs.Prelude.{◌*◌, ◌^◌, ◌-◌, ◌*ℤ◌, pos, neg_ℤ, if◌then◌else◌}
use Rattle.std.proofs.Common.{◌∙◌, ap, rules, w64}
use Rattle.std.proofs.lemmas.Int.{to_z-of_z}
use Rattle.mill_control.proofs.Besides.{finer_by}
use Rattle.mill_control.proofs.unrounded.finer.Goals as goal

pub returns-clause-value : goal.returns-clause-value
returns-clause-value c =
    let n = c.args.num in
    let number = c.times.ensures.value ∙ ap (λ t. t * c.args.per) c.from.ensures in
    let decimals = c.raised.ensures.value ∙ ap (λ z. z *ℤ pos (10 ^ (18 - n.scale))) (to_z-of_z w64 c.beside-beside.result (search rules)) in
    let sign = c.signed.ensures.value ∙ ap (λ z. if n.neg then neg_ℤ z else z) (to_z-of_z w64 c.raised.result (search rules)) in
    to_z-of_z w64 c.signed.result (search rules)
    ∙ finer_by c.args.per n c.requires.num c.times.result c.power.result c.beside-beside.result c.raised.result c.signed.result number c.power.ensures.value c.beside-beside.ensures.value decimals sign
