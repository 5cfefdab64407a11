use Rattle.std.proofs.Common.{◌≡◌, ◌⊎◌, ◌↔◌, Bool, true, false, inl, inr, refl, subst, sym, w32}
use Rattle.std.proofs.lemmas.Bool.{false≢true}
use Rattle.std.proofs.lemmas.Int.{to_z-of_z}
use Rattle.mill_sweep.specs.Apart.{LieApart}
use Rattle.mill_sweep.specs.declared.gap.Gap.{Gap}
use Rattle.mill_sweep.proofs.beside.lies_beside.Goals as goal

abbrev IsWide : Gap → Type 0
IsWide g = LieApart g.distance g.from g.to g.a g.b g.c

-- where the first of two facts isn't so, a test of the second one tells whether one is so
second_decides : (b : Bool) (P Q : Type 0) → ¬ P → (b ≡ true → Q) → (b ≡ false → ¬ Q) → (b ≡ true) ↔ (P ⊎ Q)
second_decides true P Q none holds fails = (λ t. inr (holds t), λ _. refl)
second_decides false P Q none holds fails = (λ t. absurd (false≢true t), λ h. elim h [ inl p ↦ absurd (none p) | inr q ↦ absurd (fails refl q) ])

pub returns-then-is_wide : goal.returns-then-is_wide
returns-then-is_wide c =
    let gap = rw (to_z-of_z w32 c.args.distance c.ranges.distance) at c.x_gap.ensures in
    (λ _. inl (subst IsWide gap (c.is_wide.ensures.yes c.if-is_wide.true)), λ _. refl)

pub returns : goal.returns
returns c =
    let x = rw (to_z-of_z w32 c.args.distance c.ranges.distance) at c.x_gap.ensures in
    let y = rw (to_z-of_z w32 c.args.distance c.ranges.distance) at c.y_gap.ensures in
    second_decides c.is_wide-2.result _ _ (λ h. c.is_wide.ensures.no c.if-is_wide.false (subst IsWide (sym x) h)) (λ t. subst IsWide y (c.is_wide-2.ensures.yes t)) (λ f h. c.is_wide-2.ensures.no f (subst IsWide (sym y) h))
