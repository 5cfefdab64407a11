use Rattle.std.proofs.Common.{ℕ, List, [], ◌∷◌, refl, arith, w64}
use lib.IntN.{ℤ, pos, ◌-ℤ◌, ◌*ℤ◌}
use lib.Signed.{◌<ℤ◌, ◌≤ℤ◌}
use Rattle.std.proofs.lemmas.Int.{ints}
use Rattle.mill_base.proofs.Machine.{Read, Prod, exact, prod_fits}
use Rattle.mill_geom.specs.Widths.{farthest}
use Rattle.mill_contact_cone.specs.inner.Widths.{most_bound}
use Rattle.mill_contact_cone.proofs.Stored.{kept_in}
use Rattle.mill_contact_cone.proofs.side.holds_before.Goals as goal

-- how far each number is from 0
bounds : List ℕ
bounds = most_bound ∷ most_bound ∷ farthest ∷ farthest ∷ []

clash : (f : ℤ) → f ≤ℤ pos 0 → (pos 0) <ℤ f → ⊥
clash f h k = omega (arith, ints)

at_most : (a b : ℤ) → a ≤ℤ b → (a -ℤ b) ≤ℤ pos 0
at_most a b h = omega (arith, ints)

not_at_most : (a b : ℤ) → b <ℤ a → (a -ℤ b) ≤ℤ pos 0 → ⊥
not_at_most a b h k = omega (arith, ints)

pub returns-then-f-le0-clause-no : goal.returns-then-f-le0-clause-no
returns-then-f-le0-clause-no c = λ h t.
    let f_kept = kept_in w64 _ _ c.requires.f_ok refl in
    let low = rw f_kept at c.if-f-le0.true in
    clash c.args.f (omega (arith, ints)) t.first

pub overflow_mul-result : goal.overflow_mul-result
unfolding bounds
overflow_mul-result c =
    prod_fits w64 (c.args.f ∷ c.args.g ∷ c.args.x ∷ c.args.w ∷ []) bounds (Read w64 3) (Read w64 0) (c.requires.f_ok.within, (c.requires.g_ok.within, (c.requires.x_ok.within, (c.requires.w_ok.within, tt)))) refl

pub overflow_mul-result-2 : goal.overflow_mul-result-2
unfolding bounds
overflow_mul-result-2 c =
    prod_fits w64 (c.args.f ∷ c.args.g ∷ c.args.x ∷ c.args.w ∷ []) bounds (Read w64 2) (Read w64 1) (c.requires.f_ok.within, (c.requires.g_ok.within, (c.requires.x_ok.within, (c.requires.w_ok.within, tt)))) refl

pub returns-clause-yes : goal.returns-clause-yes
unfolding bounds
returns-clause-yes c = λ h.
    let f_kept = kept_in w64 _ _ c.requires.f_ok refl in
    let high = rw f_kept at c.if-f-le0.false in
    let first = exact (c.args.f ∷ c.args.g ∷ c.args.x ∷ c.args.w ∷ []) bounds (Prod w64 (Read w64 3) (Read w64 0)) (c.requires.f_ok.within, (c.requires.g_ok.within, (c.requires.x_ok.within, (c.requires.w_ok.within, tt)))) refl in
    let last = exact (c.args.f ∷ c.args.g ∷ c.args.x ∷ c.args.w ∷ []) bounds (Prod w64 (Read w64 2) (Read w64 1)) (c.requires.f_ok.within, (c.requires.g_ok.within, (c.requires.x_ok.within, (c.requires.w_ok.within, tt)))) refl in
    let order = rw (first, last) at h in
    record { first = omega (arith, ints); middle = at_most (c.args.w *ℤ c.args.f) (c.args.x *ℤ c.args.g) (omega (arith, ints)) }

pub returns-clause-no : goal.returns-clause-no
unfolding bounds
returns-clause-no c = λ h t.
    let first = exact (c.args.f ∷ c.args.g ∷ c.args.x ∷ c.args.w ∷ []) bounds (Prod w64 (Read w64 3) (Read w64 0)) (c.requires.f_ok.within, (c.requires.g_ok.within, (c.requires.x_ok.within, (c.requires.w_ok.within, tt)))) refl in
    let last = exact (c.args.f ∷ c.args.g ∷ c.args.x ∷ c.args.w ∷ []) bounds (Prod w64 (Read w64 2) (Read w64 1)) (c.requires.f_ok.within, (c.requires.g_ok.within, (c.requires.x_ok.within, (c.requires.w_ok.within, tt)))) refl in
    let order = rw (first, last) at h in
    not_at_most (c.args.w *ℤ c.args.f) (c.args.x *ℤ c.args.g) (omega (arith, ints)) t.middle
