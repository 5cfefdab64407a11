use Rattle.std.proofs.Common.{◌^◌, ℕ, ℤ, pos, refl, sym, subst, arith}
use Rattle.std.specs.Prelude.{nat_abs, ◌<ℤ◌, ◌≤ℤ◌}
use Rattle.std.proofs.lemmas.Nat.{pow_pos}
use Rattle.mill_cells.specs.Sizes.{IsSmallGrid, IsCellSize}
use Rattle.mill_cells.proofs.SizeLemmas.{shifted, least_power, works_on, greatest_fits}
use Rattle.mill_cells.proofs.size.size_for.Goals as goal

pub overflow_cast-result : goal.overflow_cast-result
overflow_cast-result c =
    let k = shifted c.loop-doublings.doublings _ c.loop-doublings-test.true refl in
    record { sfits = omega (arith, k.1) }

pub returns-then-fits-clause-power : goal.returns-then-fits-clause-power
returns-then-fits-clause-power c = (c.loop-doublings.doublings, (shifted c.loop-doublings.doublings _ c.loop-doublings-test.true refl).2)

pub returns-then-fits-clause-fits : goal.returns-then-fits-clause-fits
returns-then-fits-clause-fits c =
    let k = shifted c.loop-doublings.doublings _ c.loop-doublings-test.true refl in
    subst (λ (z : ℤ). IsSmallGrid c.args.tris.now (nat_abs z)) (sym k.2) (subst (IsSmallGrid c.args.tris.now) k.0 (c.fits.ensures.0 c.if-fits.true))

pub returns-then-fits-clause-least : goal.returns-then-fits-clause-least
returns-then-fits-clause-least c =
    let k = shifted c.loop-doublings.doublings _ c.loop-doublings-test.true refl in
    subst (λ (z : ℤ). (k : ℕ) → (pos (2 ^ k)) <ℤ z → ¬ IsSmallGrid c.args.tris.now (2 ^ k)) (sym k.2) (least_power c.args.tris.now c.loop-doublings.doublings c.loop-doublings.invariant)

pub returns-then-fits-clause-works : goal.returns-then-fits-clause-works
returns-then-fits-clause-works c =
    let k = shifted c.loop-doublings.doublings _ c.loop-doublings-test.true refl in
    subst (λ (z : ℤ). (size : ℤ) → z ≤ℤ size → IsCellSize c.args.tris.now size) (sym k.2)
    (λ size le. works_on c.args.tris.now (2 ^ c.loop-doublings.doublings) size (pow_pos c.loop-doublings.doublings) (subst (IsSmallGrid c.args.tris.now) k.0 (c.fits.ensures.0 c.if-fits.true)) le)

pub returns-clause-fits : goal.returns-clause-fits
returns-clause-fits c = greatest_fits c.args.tris.now c.requires.in_range

pub returns-clause-least : goal.returns-clause-least
returns-clause-least c = least_power c.args.tris.now 20 (λ k less. c.loop-doublings.invariant k (omega arith))

pub returns-clause-works : goal.returns-clause-works
returns-clause-works c = λ size le. works_on c.args.tris.now (2 ^ 20) size (omega arith) (greatest_fits c.args.tris.now c.requires.in_range) le
