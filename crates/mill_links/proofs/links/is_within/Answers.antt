use Rattle.std.specs.Prelude.{◌≡◌, true, false, ℤ, pos, nat_abs, ◌-ℤ◌, ◌*ℤ◌, ◌≤ℤ◌}
use Rattle.std.proofs.Common.{rules, ◌∙◌, ap, arith, to_z, of_z, w32, w64}
use Rattle.std.proofs.lemmas.Int.{ints, to_z-of_z}
use Rattle.mill_links.specs.Links.{distance}
use Rattle.mill_links.proofs.links.is_within.Goals as goal
use lib.Signed.{le_z}

within : (a b d r : ℤ) → a ≡ d → b ≡ r → le_z a b ≡ true → d ≤ℤ r
within a b d r e f h = omega (e, f, h, arith, ints)

beyond : (a b d r : ℤ) → a ≡ d → b ≡ r → le_z a b ≡ false → d ≤ℤ r → ⊥
beyond a b d r e f h k = omega (e, f, h, k, arith, ints)

pub returns-clause-yes : goal.returns-clause-yes
returns-clause-yes c =
    let apart : c.abs_diff.result ≡ nat_abs (c.args.a -ℤ c.args.b) = rw (to_z-of_z w32 c.args.a c.ranges.a, to_z-of_z w32 c.args.b c.ranges.b) at c.abs_diff.ensures in
    let left : to_z w64 (of_z w64 c.from.result) ≡ distance c.args.a c.args.b = to_z-of_z w64 c.from.result (search rules) ∙ c.from.ensures ∙ ap pos apart in
    let step : to_z w64 (of_z w64 c.from-2.result) ≡ c.args.step = to_z-of_z w64 c.from-2.result (search rules) ∙ c.from-2.ensures ∙ to_z-of_z w32 c.args.step c.ranges.step in
    let right : to_z w64 (of_z w64 (pos 2 *ℤ to_z w64 (of_z w64 c.from-2.result))) ≡ pos 2 *ℤ c.args.step =
    to_z-of_z w64 (pos 2 *ℤ to_z w64 (of_z w64 c.from-2.result)) (search rules) ∙ ap (λ s. pos 2 *ℤ s) step in
    λ test. within _ _ _ _ left right test

pub returns-clause-no : goal.returns-clause-no
returns-clause-no c =
    let apart : c.abs_diff.result ≡ nat_abs (c.args.a -ℤ c.args.b) = rw (to_z-of_z w32 c.args.a c.ranges.a, to_z-of_z w32 c.args.b c.ranges.b) at c.abs_diff.ensures in
    let left : to_z w64 (of_z w64 c.from.result) ≡ distance c.args.a c.args.b = to_z-of_z w64 c.from.result (search rules) ∙ c.from.ensures ∙ ap pos apart in
    let step : to_z w64 (of_z w64 c.from-2.result) ≡ c.args.step = to_z-of_z w64 c.from-2.result (search rules) ∙ c.from-2.ensures ∙ to_z-of_z w32 c.args.step c.ranges.step in
    let right : to_z w64 (of_z w64 (pos 2 *ℤ to_z w64 (of_z w64 c.from-2.result))) ≡ pos 2 *ℤ c.args.step =
    to_z-of_z w64 (pos 2 *ℤ to_z w64 (of_z w64 c.from-2.result)) (search rules) ∙ ap (λ s. pos 2 *ℤ s) step in
    λ test near. beyond _ _ _ _ left right test near
