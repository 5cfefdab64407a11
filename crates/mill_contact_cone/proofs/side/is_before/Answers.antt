use Rattle.std.proofs.Common.{◌≡◌, inl, inr, refl, w64}
use lib.IntN.{ℤ}
use Rattle.mill_base.specs.Numbers.{Within}
use Rattle.mill_base.proofs.Machine.{stored}
use Rattle.mill_contact_cone.specs.declared.corner.Corner.{Corner}
use Rattle.mill_contact_cone.specs.inner.Widths.{most_bound}
use Rattle.mill_contact_cone.specs.Cones.{CornerInRange}
use Rattle.mill_contact_cone.specs.inner.Positions.{HoldsBefore}
use Rattle.mill_contact_cone.proofs.Stored.{kept_in, x_kept}
use Rattle.mill_contact_cone.proofs.side.is_before.Goals as goal

-- the test of two stored numbers f and g at two corners is that of the numbers i and j which they are
before_is : (f g i j : ℤ) (p q : Corner) → CornerInRange p → CornerInRange q → Within most_bound f → Within most_bound g → f ≡ i → g ≡ j
    → HoldsBefore (stored w64 f) (stored w64 g) (stored w64 p.x) (stored w64 q.x) → HoldsBefore i j p.x q.x
before_is f g i j p q hp hq hf hg ef eg h = rw (kept_in w64 _ _ hf refl, kept_in w64 _ _ hg refl, x_kept p hp, x_kept q hq, ef, eg) at h

before_back : (f g i j : ℤ) (p q : Corner) → CornerInRange p → CornerInRange q → Within most_bound f → Within most_bound g → f ≡ i → g ≡ j
    → HoldsBefore i j p.x q.x → HoldsBefore (stored w64 f) (stored w64 g) (stored w64 p.x) (stored w64 q.x)
before_back f g i j p q hp hq hf hg ef eg h = rw (kept_in w64 _ _ hf refl, kept_in w64 _ _ hg refl, x_kept p hp, x_kept q hq, ef, eg) h

pub returns-then-holds_before-clause-yes : goal.returns-then-holds_before-clause-yes
returns-then-holds_before-clause-yes c = λ h.
    inl (inl (before_is _ _ _ _ c.args.p c.args.q c.requires.p_ok c.requires.q_ok c.from_right.ensures.bound c.from_right-2.ensures.bound c.from_right.ensures.value c.from_right-2.ensures.value (c.holds_before.ensures.yes c.if-holds_before.true)))

pub returns-then-holds_before-2-clause-yes : goal.returns-then-holds_before-2-clause-yes
returns-then-holds_before-2-clause-yes c = λ h.
    inl (inr (before_is _ _ _ _ c.args.p c.args.q c.requires.p_ok c.requires.q_ok c.from_left.ensures.bound c.from_left-2.ensures.bound c.from_left.ensures.value c.from_left-2.ensures.value (c.holds_before-2.ensures.yes c.if-holds_before-2.true)))

pub returns-then-holds_before-3-clause-yes : goal.returns-then-holds_before-3-clause-yes
returns-then-holds_before-3-clause-yes c = λ h.
    inr (inl (before_is _ _ _ _ c.args.p c.args.q c.requires.p_ok c.requires.q_ok c.over_right.ensures.bound c.over_right-2.ensures.bound c.over_right.ensures.value c.over_right-2.ensures.value (c.holds_before-3.ensures.yes c.if-holds_before-3.true)))

pub returns-clause-yes : goal.returns-clause-yes
returns-clause-yes c = λ h.
    inr (inr (before_is _ _ _ _ c.args.p c.args.q c.requires.p_ok c.requires.q_ok c.over_left.ensures.bound c.over_left-2.ensures.bound c.over_left.ensures.value c.over_left-2.ensures.value (c.holds_before-4.ensures.yes h)))

pub returns-clause-no : goal.returns-clause-no
returns-clause-no c = λ h t.
    elim t [
      | inl side ↦ elim side [
        | inl b ↦ c.holds_before.ensures.no c.if-holds_before.false (before_back _ _ _ _ c.args.p c.args.q c.requires.p_ok c.requires.q_ok c.from_right.ensures.bound c.from_right-2.ensures.bound c.from_right.ensures.value c.from_right-2.ensures.value b)
        | inr b ↦ c.holds_before-2.ensures.no c.if-holds_before-2.false (before_back _ _ _ _ c.args.p c.args.q c.requires.p_ok c.requires.q_ok c.from_left.ensures.bound c.from_left-2.ensures.bound c.from_left.ensures.value c.from_left-2.ensures.value b)
      ]
      | inr wall ↦ elim wall [
        | inl b ↦ c.holds_before-3.ensures.no c.if-holds_before-3.false (before_back _ _ _ _ c.args.p c.args.q c.requires.p_ok c.requires.q_ok c.over_right.ensures.bound c.over_right-2.ensures.bound c.over_right.ensures.value c.over_right-2.ensures.value b)
        | inr b ↦ c.holds_before-4.ensures.no h (before_back _ _ _ _ c.args.p c.args.q c.requires.p_ok c.requires.q_ok c.over_left.ensures.bound c.over_left-2.ensures.bound c.over_left.ensures.value c.over_left-2.ensures.value b)
      ]
    ]
