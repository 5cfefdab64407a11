use Rattle.std.proofs.Common.{◌≡◌, inl, inr, sym, ◌∙◌, refl, arith}
use mir.Syntax.{w128}
use lib.IntN.{ℤ, pos}
use lib.Signed.{◌<ℤ◌, ◌≤ℤ◌}
use Rattle.std.proofs.lemmas.Int.{ints}
use Rattle.std.proofs.lemmas.Bool.{false≢true}
use Rattle.mill_contact_cone.proofs.Parts.{part_found, part_shows}
use Rattle.mill_contact_cone.proofs.Stored.{kept_in}
use Rattle.mill_contact_cone.proofs.quadratic.hits_between.Goals as goal

below : (x y : ℤ) → x ≡ y → x <ℤ pos 0 → y <ℤ pos 0
below x y e h = omega (arith, ints)

not_both : (x y : ℤ) → x ≡ y → (pos 0) ≤ℤ x → y <ℤ pos 0 → ⊥
not_both x y e h k = omega (arith, ints)

pub returns-then-polar-lt0-clause-yes : goal.returns-then-polar-lt0-clause-yes
returns-then-polar-lt0-clause-yes c = λ h.
    let first_kept = kept_in w128 _ _ c.polar.ensures.bound refl in
    let negative = rw first_kept at c.if-polar-lt0.true in
    part_found c.args.form c.args.from c.args.to c.requires.apart c.requires.from_ok.u_least c.requires.from_ok.v_least c.requires.to_ok.u_least c.requires.to_ok.v_least
    (inl (below c.polar.result _ c.polar.ensures.value (omega (arith, ints))))

pub returns-then-polar-lt0-2-clause-yes : goal.returns-then-polar-lt0-2-clause-yes
returns-then-polar-lt0-2-clause-yes c = λ h.
    let last_kept = kept_in w128 _ _ c.polar-2.ensures.bound refl in
    let negative = rw last_kept at c.if-polar-lt0-2.true in
    part_found c.args.form c.args.from c.args.to c.requires.apart c.requires.from_ok.u_least c.requires.from_ok.v_least c.requires.to_ok.u_least c.requires.to_ok.v_least
    (inr (inl (below c.polar-2.result _ c.polar-2.ensures.value (omega (arith, ints)))))

pub returns-then-polar-ge0-clause-no : goal.returns-then-polar-ge0-clause-no
returns-then-polar-ge0-clause-no c = λ h t.
    let first_kept = kept_in w128 _ _ c.polar.ensures.bound refl in
    let last_kept = kept_in w128 _ _ c.polar-2.ensures.bound refl in
    let both_kept = kept_in w128 _ _ c.polar-3.ensures.bound refl in
    let first = rw first_kept at c.if-polar-lt0.false in
    let last = rw last_kept at c.if-polar-lt0-2.false in
    let both = rw both_kept at c.if-polar-ge0.true in
    elim (part_shows c.args.form c.args.from c.args.to c.requires.apart t) [
      | inl x ↦ not_both c.polar.result _ c.polar.ensures.value (omega (arith, ints)) x
      | inr y ↦ elim y [
        | inl x ↦ not_both c.polar-2.result _ c.polar-2.ensures.value (omega (arith, ints)) x
        | inr x ↦ not_both c.polar-3.result _ c.polar-3.ensures.value (omega (arith, ints)) x.0
      ]
    ]

pub returns-clause-yes : goal.returns-clause-yes
returns-clause-yes c = λ h.
    let both_kept = kept_in w128 _ _ c.polar-3.ensures.bound refl in
    let negative = rw both_kept at c.if-polar-ge0.false in
    part_found c.args.form c.args.from c.args.to c.requires.apart c.requires.from_ok.u_least c.requires.from_ok.v_least c.requires.to_ok.u_least c.requires.to_ok.v_least
    (inr (inr (below c.polar-3.result _ c.polar-3.ensures.value (omega (arith, ints)), c.has_both_signs.ensures.0 h)))

pub returns-clause-no : goal.returns-clause-no
returns-clause-no c = λ h t.
    let first_kept = kept_in w128 _ _ c.polar.ensures.bound refl in
    let last_kept = kept_in w128 _ _ c.polar-2.ensures.bound refl in
    let first = rw first_kept at c.if-polar-lt0.false in
    let last = rw last_kept at c.if-polar-lt0-2.false in
    elim (part_shows c.args.form c.args.from c.args.to c.requires.apart t) [
      | inl x ↦ not_both c.polar.result _ c.polar.ensures.value (omega (arith, ints)) x
      | inr y ↦ elim y [
        | inl x ↦ not_both c.polar-2.result _ c.polar-2.ensures.value (omega (arith, ints)) x
        | inr x ↦ false≢true (sym h ∙ c.has_both_signs.ensures.1 x.1)
      ]
    ]
