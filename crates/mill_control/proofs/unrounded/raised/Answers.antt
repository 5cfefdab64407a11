use Rattle.std.specs.Prelude.{◌≡◌, ◌^◌, ◌-◌, ◌*◌, ◌*ℤ◌, pos}
use Rattle.std.proofs.Common.{◌∙◌, ap, sym, subst, arith, w64, to_z, of_z}
use Rattle.std.proofs.Math.Facts.{to_z_pos}
use Rattle.std.proofs.lemmas.Int.{to_z-of_z}
use Rattle.mill_base.specs.Numbers.{Within}
use Rattle.mill_control.proofs.Besides.{half_within, within_fits}
use Rattle.mill_control.proofs.unrounded.raised.Goals as goal

product : (c : goal.After-power) → to_z w64 (of_z w64 c.args.beside) *ℤ to_z w64 c.power.result ≡ c.args.beside *ℤ pos (10 ^ (18 - c.args.scale))
product c =
    ap (λ t. t *ℤ to_z w64 c.power.result) (to_z-of_z w64 c.args.beside c.ranges.beside)
    ∙ ap (λ t. c.args.beside *ℤ t) (to_z_pos w64 {n = c.power.result} (omega (arith, c.power.ensures.bound)) ∙ ap pos c.power.ensures.value)

within : (c : goal.After-power) → Within (5 * 10 ^ 17) (to_z w64 (of_z w64 c.args.beside) *ℤ to_z w64 c.power.result)
within c = subst (λ z. Within (5 * 10 ^ 17) z) (sym (product c)) (half_within c.args.beside c.args.scale c.requires.scale c.requires.half)

pub overflow_mul-result : goal.overflow_mul-result
overflow_mul-result c = within_fits (within c)

pub returns-clause-value : goal.returns-clause-value
returns-clause-value c = to_z-of_z w64 _ (within_fits (within c)) ∙ product c

pub returns-clause-bound : goal.returns-clause-bound
returns-clause-bound c = subst (λ z. Within (5 * 10 ^ 17) z) (sym (to_z-of_z w64 _ (within_fits (within c)))) (within c)
