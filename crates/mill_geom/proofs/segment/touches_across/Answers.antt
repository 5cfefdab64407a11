use Rattle.std.proofs.Common.{[], ◌∷◌, refl}
use mir.Syntax.{w128}
use lib.IntN.{ℤ, pos}
use Rattle.mill_base.proofs.Machine.{Read, Prod, prod_fits}
use Rattle.mill_geom.specs.Widths.{most_form}
use Rattle.mill_geom.specs.Forms.{form_of, cut_mid_of, cut_end_of}
use Rattle.mill_geom.specs.Contacts.{TouchesSegment}
use Rattle.mill_geom.proofs.segment.touches_across.Goals as goal
use Rattle.std.proofs.Common.{◌≡◌, ◌⊎◌, ◌↔◌, inl, inr, subst, arith}
use lib.IntN.{◌*ℤ◌}
use lib.Signed.{◌<ℤ◌, ◌≤ℤ◌}
use Rattle.std.proofs.lemmas.Int.{ints}
use Rattle.std.proofs.lemmas.Bool.{false≢true}
use Rattle.mill_geom.specs.declared.offset.Offset.{Offset}
use Rattle.mill_base.proofs.Machine.{less}
use Rattle.mill_geom.proofs.Segments.{cut_hits, cut_minor}
use Rattle.mill_geom.proofs.Kept.{radius_kept, place_kept, form_kept}

-- the three tests, over the numbers that the calls gave
abbrev Tests : ℤ → ℤ → ℤ → ℤ → ℤ → Type 0
Tests a h b e m = (a <ℤ pos 0) ⊎ ((e <ℤ pos 0) ⊎ ((m <ℤ pos 0) × ((a *ℤ b) <ℤ (h *ℤ h))))

tests_are : (r : ℤ) (p q : Offset) (a h b e m : ℤ) → (pos 0) <ℤ p.z → q.z <ℤ pos 0 → a ≡ form_of r p p → h ≡ form_of r p q → b ≡ form_of r q q
    → e ≡ cut_end_of a h b p.z q.z → m ≡ cut_mid_of a h p.z q.z → Tests a h b e m ↔ TouchesSegment r p q
tests_are r p q a h b e m up down ea eh eb ee em =
    let A = form_of r p p in let H = form_of r p q in let B = form_of r q q in
    let hits = cut_hits r p q up down in
    let same = cut_minor A H B p.z q.z up in
    let t : Tests A H B (cut_end_of A H B p.z q.z) (cut_mid_of A H p.z q.z) ↔ TouchesSegment r p q = (λ x. hits.0 (same.0 x), λ x. same.1 (hits.1 x)) in
    rw (ee, em) (rw (ea, eh, eb) t)

first_alone : (r : ℤ) (p q : Offset) (a : ℤ) → (pos 0) <ℤ p.z → q.z <ℤ pos 0 → a ≡ form_of r p p → a <ℤ pos 0 → TouchesSegment r p q
first_alone r p q a up down ea l = (tests_are r p q (form_of r p p) (form_of r p q) (form_of r q q) _ _ up down refl refl refl refl refl).0 (inl (subst (λ t. t <ℤ pos 0) ea l))

no_test : (a h b e m : ℤ) → (pos 0) ≤ℤ a → (pos 0) ≤ℤ e → (pos 0) ≤ℤ m → Tests a h b e m → ⊥
no_test a h b e m na ne nm x = elim x [ inl y ↦ omega (arith, ints) | inr y ↦ elim y [ inl z ↦ omega (arith, ints) | inr z ↦ let l = z.0 in omega (arith, ints) ] ]

last_test : (a h b e m : ℤ) → (pos 0) ≤ℤ a → (pos 0) ≤ℤ e → m <ℤ pos 0 → ((a *ℤ b) <ℤ (h *ℤ h)) ↔ Tests a h b e m
last_test a h b e m na ne lm = (λ x. inr (inr (lm, x)), λ x. elim x [ inl y ↦ absurd (omega (arith, ints)) | inr y ↦ elim y [ inl z ↦ absurd (omega (arith, ints)) | inr z ↦ z.1 ] ])

pub returns-then-a-lt0 : goal.returns-then-a-lt0
returns-then-a-lt0 c =
    let kr = radius_kept c.args.radius c.requires.r_ok in
    let ea = rw kr at c.form-a.ensures.value in
    (λ _. first_alone c.args.radius c.args.p c.args.q c.form-a.result c.requires.up c.requires.down ea (omega (arith, ints)), λ _. refl)

pub returns-then-cut_end-lt0 : goal.returns-then-cut_end-lt0
returns-then-cut_end-lt0 c =
    let kr = radius_kept c.args.radius c.requires.r_ok in
    let ka = form_kept c.form-a.result c.form-a.ensures.bound in
    let kh = form_kept c.form-h.result c.form-h.ensures.bound in
    let kb = form_kept c.form-b.result c.form-b.ensures.bound in
    let kz = place_kept c.args.p.z c.requires.p_ok.z_ok in
    let kw = place_kept c.args.q.z c.requires.q_ok.z_ok in
    let ee = rw (ka, kh, kb, kz, kw) at c.cut_end.ensures in
    let t = tests_are c.args.radius c.args.p c.args.q _ _ _ c.cut_end.result _ c.requires.up c.requires.down (rw kr at c.form-a.ensures.value) (rw kr at c.form-h.ensures.value) (rw kr at c.form-b.ensures.value) ee refl in
    (λ _. t.0 (inr (inl (omega (arith, ints)))), λ _. refl)

pub returns-then-cut_mid-ge0 : goal.returns-then-cut_mid-ge0
returns-then-cut_mid-ge0 c =
    let kr = radius_kept c.args.radius c.requires.r_ok in
    let ka = form_kept c.form-a.result c.form-a.ensures.bound in
    let kh = form_kept c.form-h.result c.form-h.ensures.bound in
    let kb = form_kept c.form-b.result c.form-b.ensures.bound in
    let kz = place_kept c.args.p.z c.requires.p_ok.z_ok in
    let kw = place_kept c.args.q.z c.requires.q_ok.z_ok in
    let ee = rw (ka, kh, kb, kz, kw) at c.cut_end.ensures in
    let em = rw (ka, kh, kz, kw) at c.cut_mid.ensures in
    let t = tests_are c.args.radius c.args.p c.args.q _ _ _ c.cut_end.result c.cut_mid.result c.requires.up c.requires.down (rw kr at c.form-a.ensures.value) (rw kr at c.form-h.ensures.value) (rw kr at c.form-b.ensures.value) ee em in
    (λ x. absurd (false≢true x), λ x. absurd (no_test c.form-a.result c.form-h.result c.form-b.result c.cut_end.result c.cut_mid.result (omega (arith, ints)) (omega (arith, ints)) (omega (arith, ints)) (t.1 x)))

pub overflow_mul-result : goal.overflow_mul-result
overflow_mul-result c = prod_fits w128 (c.form-a.result ∷ c.form-h.result ∷ c.form-b.result ∷ []) (most_form ∷ most_form ∷ most_form ∷ []) (Read w128 0) (Read w128 2) (c.form-a.ensures.bound.within, (c.form-h.ensures.bound.within, (c.form-b.ensures.bound.within, tt))) refl

pub overflow_mul-result-2 : goal.overflow_mul-result-2
overflow_mul-result-2 c = prod_fits w128 (c.form-a.result ∷ c.form-h.result ∷ c.form-b.result ∷ []) (most_form ∷ most_form ∷ most_form ∷ []) (Read w128 1) (Read w128 1) (c.form-a.ensures.bound.within, (c.form-h.ensures.bound.within, (c.form-b.ensures.bound.within, tt))) refl

pub returns : goal.returns
returns c =
    let kr = radius_kept c.args.radius c.requires.r_ok in
    let ka = form_kept c.form-a.result c.form-a.ensures.bound in
    let kh = form_kept c.form-h.result c.form-h.ensures.bound in
    let kb = form_kept c.form-b.result c.form-b.ensures.bound in
    let kz = place_kept c.args.p.z c.requires.p_ok.z_ok in
    let kw = place_kept c.args.q.z c.requires.q_ok.z_ok in
    let ee = rw (ka, kh, kb, kz, kw) at c.cut_end.ensures in
    let em = rw (ka, kh, kz, kw) at c.cut_mid.ensures in
    let t = tests_are c.args.radius c.args.p c.args.q _ _ _ c.cut_end.result c.cut_mid.result c.requires.up c.requires.down (rw kr at c.form-a.ensures.value) (rw kr at c.form-h.ensures.value) (rw kr at c.form-b.ensures.value) ee em in
    let k = less (c.form-a.result ∷ c.form-h.result ∷ c.form-b.result ∷ []) (most_form ∷ most_form ∷ most_form ∷ []) (Prod w128 (Read w128 0) (Read w128 2)) (Prod w128 (Read w128 1) (Read w128 1)) (c.form-a.ensures.bound.within, (c.form-h.ensures.bound.within, (c.form-b.ensures.bound.within, tt))) refl in
    let l = last_test c.form-a.result c.form-h.result c.form-b.result c.cut_end.result c.cut_mid.result (omega (arith, ints)) (omega (arith, ints)) (omega (arith, ints)) in
    (λ x. t.0 (l.0 (k.0 x)), λ x. k.1 (l.1 (t.1 x)))
