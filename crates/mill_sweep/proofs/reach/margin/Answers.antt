use Rattle.std.proofs.Common.{◌≤◌, ◌∙◌, [], ◌∷◌, refl, sym, subst, ap, w32, arith}
use Rattle.std.specs.Prelude.{nat_abs}
use Rattle.std.proofs.lemmas.Int.{ints}
use lib.IntN.{ℤ, pos, ◌+ℤ◌}
use lib.Signed.{◌≤ℤ◌}
use Rattle.mill_base.proofs.Machine.{Read, Lit, Sum, exact, stays}
use Rattle.mill_base.specs.Sizes.{HasRadius, IsCutter, radius_of}
use Rattle.mill_base.specs.declared.cutter.Cutter.{Cutter}
use Rattle.mill_base.specs.declared.cutter.Cutter.TheVariants.{Flat, Ball, Cone}
use Rattle.mill_base.specs.declared.limits.TheConstants.{MAX_COORDINATE, MAX_RADIUS}
use Rattle.mill_sweep.proofs.OutOfReach.{margin_least}
use Rattle.mill_sweep.proofs.reach.margin.Goals as goal

sized : (cutter : Cutter) → IsCutter cutter → HasRadius (radius_of cutter) MAX_RADIUS
sized (Flat r) h = h
sized (Ball r) h = h
sized (Cone r a b) h = h.0

small : (r : ℤ) → HasRadius r MAX_RADIUS → nat_abs r ≤ 10000
small r h = let a = h.least in let b = h.within in omega (a, b, arith, ints)

pub returns-clause-value : goal.returns-clause-value
returns-clause-value c =
    let radius = subst (λ (r : ℤ). nat_abs r ≤ 10000) (sym c.radius.ensures) (small _ (sized c.args.cutter c.requires)) in
    exact (c.radius.result ∷ []) (10000 ∷ []) (Sum w32 (Read w32 0) (Lit (pos 2))) (radius, tt) refl ∙ ap (λ (r : ℤ). r +ℤ pos 2) c.radius.ensures

pub returns-clause-least : goal.returns-clause-least
returns-clause-least c = subst (λ (z : ℤ). (pos 0) ≤ℤ z) (sym (returns-clause-value c)) (margin_least c.args.cutter c.requires)

pub returns-clause-bound : goal.returns-clause-bound
returns-clause-bound c =
    let radius = subst (λ (r : ℤ). nat_abs r ≤ 10000) (sym c.radius.ensures) (small _ (sized c.args.cutter c.requires)) in
    record { within = stays (c.radius.result ∷ []) (10000 ∷ []) (Sum w32 (Read w32 0) (Lit (pos 2))) MAX_COORDINATE (radius, tt) refl }
