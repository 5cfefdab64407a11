use Rattle.std.proofs.Common.{◌↔◌, inl, inr, [], ◌∷◌, refl, arith}
use mir.Syntax.{w128}
use lib.IntN.{ℤ, pos, ◌*ℤ◌}
use lib.Signed.{◌<ℤ◌, ◌≤ℤ◌}
use Rattle.std.proofs.lemmas.Int.{ints}
use Rattle.mill_geom.specs.Widths.{most_form}
use Rattle.mill_geom.specs.Forms.{PairHits}
use Rattle.mill_base.proofs.Machine.{Read, Prod, less}
use Rattle.mill_geom.proofs.segment.pair_hits.Goals as goal

-- with the first two cases out, the third decides
third : {T : Type 0} (a h b : ℤ) → (pos 0) ≤ℤ a → (pos 0) ≤ℤ b → h <ℤ pos 0 → (T ↔ ((a *ℤ b) <ℤ (h *ℤ h))) → T ↔ PairHits a h b
third a h b na nb hh t =
    (λ x. inr (inr (hh, t.0 x)), λ p. elim p [ inl l ↦ absurd (omega (arith, ints)) | inr q ↦ elim q [ inl l ↦ absurd (omega (arith, ints)) | inr m ↦ t.1 m.1 ] ])

pub returns : goal.returns
returns c =
    let k = less (c.args.a ∷ c.args.h ∷ c.args.b ∷ []) (most_form ∷ most_form ∷ most_form ∷ []) (Prod w128 (Read w128 0) (Read w128 2)) (Prod w128 (Read w128 1) (Read w128 1)) (c.requires.a_ok.within, (c.requires.h_ok.within, (c.requires.b_ok.within, tt))) refl in
    third c.args.a c.args.h c.args.b (omega (arith, ints)) (omega (arith, ints)) (omega (arith, ints)) k
