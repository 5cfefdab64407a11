use Rattle.std.proofs.Common.{◌≡◌, [], ◌∷◌, refl, sym, subst, w32, arith}
use Rattle.std.specs.Prelude.{ℤ, pos, nat_abs, ◌+ℤ◌, ◌≤◌, ◌≤ℤ◌}
use Rattle.std.specs.Int.{int_min}
use Rattle.std.proofs.lemmas.Int.{ints}
use Rattle.mill_base.proofs.Machine.{Read, Sum, exact, stored}
use Rattle.mill_base.specs.declared.limits.TheConstants.{LOWEST_LIFT, MAX_COORDINATE}
use Rattle.mill_dexel.proofs.row.lower_end.Goals as goal

-- a lift is no longer than a coordinate
small : (s : ℤ) → LOWEST_LIFT ≤ℤ s → s ≤ℤ pos MAX_COORDINATE → nat_abs s ≤ MAX_COORDINATE
small s least within = omega (least, within, arith, ints)

-- the lesser of two coordinates is one too
lesser_small : (a b m : ℤ) → nat_abs a ≤ MAX_COORDINATE → nat_abs b ≤ MAX_COORDINATE → m ≡ int_min a b → nat_abs m ≤ MAX_COORDINATE
lesser_small a b m a_ok b_ok is = grind (arith, ints)

higher : (a b s : ℤ) → a ≤ℤ b → (a +ℤ s) ≤ℤ (b +ℤ s)
higher a b s h = omega (h, arith, ints)

pub returns-clause-from : goal.returns-clause-from
returns-clause-from c =
    let s = c.args.lift in
    let low : nat_abs c.min.result ≤ MAX_COORDINATE = lesser_small (stored w32 c.args.step.now.from.z) (stored w32 c.args.step.now.to.z) c.min.result (omega (arith, ints)) (omega (arith, ints)) c.min.ensures.value in
    subst (λ (z : ℤ). z ≤ℤ (c.args.step.now.from.z +ℤ s))
    (sym (exact (c.min.result ∷ s ∷ []) (MAX_COORDINATE ∷ MAX_COORDINATE ∷ []) (Sum w32 (Read w32 0) (Read w32 1)) (low, (small s c.requires.lift.least c.requires.lift.within, tt)) refl))
    (higher c.min.result c.args.step.now.from.z s (omega (arith, ints)))

pub returns-clause-to : goal.returns-clause-to
returns-clause-to c =
    let s = c.args.lift in
    let low : nat_abs c.min.result ≤ MAX_COORDINATE = lesser_small (stored w32 c.args.step.now.from.z) (stored w32 c.args.step.now.to.z) c.min.result (omega (arith, ints)) (omega (arith, ints)) c.min.ensures.value in
    subst (λ (z : ℤ). z ≤ℤ (c.args.step.now.to.z +ℤ s))
    (sym (exact (c.min.result ∷ s ∷ []) (MAX_COORDINATE ∷ MAX_COORDINATE ∷ []) (Sum w32 (Read w32 0) (Read w32 1)) (low, (small s c.requires.lift.least c.requires.lift.within, tt)) refl))
    (higher c.min.result c.args.step.now.to.z s (omega (arith, ints)))
