-- A point of a triangle that is nearer than its time (x^2 + y^2 < n^2, n >= 0, l >= 0), and a direction along which only the time changes:
-- either such a point lies on the boundary, or the direction never leaves the triangle.
use Rattle.std.proofs.Common.{◌≡◌, ◌⊎◌, inl, inr, List, [], ◌∷◌, sym, ap, ◌∙◌, subst, arith}
use lib.IntN.{ℤ, pos, ◌+ℤ◌, ◌*ℤ◌}
use lib.Signed.{◌<ℤ◌, ◌≤ℤ◌}
use Rattle.std.proofs.lemmas.Int.{ints}
use Rattle.mill_base.proofs.Exit.{Line, NeverFalls, Exit, exit}
use Rattle.mill_geom.proofs.DescendCerts.{lin, later_near0, later_time, later_near}

-- a corner, or any point, over its denominator: its place, its time and its side
pub record V4 : Type 0 where
  pub x : ℤ
  pub y : ℤ
  pub n : ℤ
  pub l : ℤ

abbrev pub mix : (V4 → ℤ) → V4 → V4 → V4 → ℤ → ℤ → ℤ → ℤ
mix f a b c u v w = (u *ℤ f a +ℤ v *ℤ f b) +ℤ w *ℤ f c

pub record Weights (u v w : ℤ) : Type 0 where
  pub u_ok : (pos 0) ≤ℤ u
  pub v_ok : (pos 0) ≤ℤ v
  pub w_ok : (pos 0) ≤ℤ w

pub record Hit (a b c : V4) (u v w : ℤ) : Type 0 where
  pub near : (mix (λ p. p.x) a b c u v w *ℤ mix (λ p. p.x) a b c u v w +ℤ mix (λ p. p.y) a b c u v w *ℤ mix (λ p. p.y) a b c u v w) <ℤ (mix (λ p. p.n) a b c u v w *ℤ mix (λ p. p.n) a b c u v w)
  pub time : (pos 0) ≤ℤ mix (λ p. p.n) a b c u v w
  pub side : (pos 0) ≤ℤ mix (λ p. p.l) a b c u v w

-- a hit on the boundary: some weight is 0, or the side is
pub record Boundary (a b c : V4) : Type 0 where
  pub u : ℤ
  pub v : ℤ
  pub w : ℤ
  pub weights : Weights u v w
  pub hit : Hit a b c u v w
  pub edge : (u ≡ pos 0) ⊎ ((v ≡ pos 0) ⊎ ((w ≡ pos 0) ⊎ (mix (λ p. p.l) a b c u v w ≡ pos 0)))

abbrev pub lines : V4 → V4 → V4 → ℤ → ℤ → ℤ → ℤ → ℤ → ℤ → List Line
lines a b c u v w i j k =
    record { now = u; rate = i } ∷ (record { now = v; rate = j } ∷ (record { now = w; rate = k } ∷ (record { now = mix (λ p. p.l) a b c u v w; rate = mix (λ p. p.l) a b c i j k } ∷ [])))

-- the direction (i, j, k) keeps the place, and the time doesn't fall
pub record Upward (a b c : V4) (i j k : ℤ) : Type 0 where
  pub still_x : mix (λ p. p.x) a b c i j k ≡ pos 0
  pub still_y : mix (λ p. p.y) a b c i j k ≡ pos 0
  pub rises : (pos 0) ≤ℤ mix (λ p. p.n) a b c i j k

moved_still : (f : V4 → ℤ) (a b c : V4) (q p u v w i j k : ℤ) → mix f a b c i j k ≡ pos 0
    → mix f a b c (q *ℤ u +ℤ p *ℤ i) (q *ℤ v +ℤ p *ℤ j) (q *ℤ w +ℤ p *ℤ k) ≡ q *ℤ mix f a b c u v w
moved_still f a b c q p u v w i j k e =
    lin q p u v w i j k (f a) (f b) (f c) ∙ ap (λ t. q *ℤ mix f a b c u v w +ℤ p *ℤ t) e ∙ last (q *ℤ mix f a b c u v w) p
  where
    last : (x p : ℤ) → x +ℤ p *ℤ pos 0 ≡ x
    last x p = omega (arith, ints)

pub descend : (a b c : V4) (u v w i j k : ℤ) → Weights u v w → Hit a b c u v w → Upward a b c i j k
    → NeverFalls (lines a b c u v w i j k) ⊎ Boundary a b c
descend a b c u v w i j k s h d = by (exit (lines a b c u v w i j k) (s.u_ok, (s.v_ok, (s.w_ok, (h.side, tt)))))
  where
    by : NeverFalls (lines a b c u v w i j k) ⊎ Exit (lines a b c u v w i j k) → NeverFalls (lines a b c u v w i j k) ⊎ Boundary a b c
    by (inl n) = inl n
    by (inr e) =
        let nu = e.q *ℤ u +ℤ e.p *ℤ i in
        let nv = e.q *ℤ v +ℤ e.p *ℤ j in
        let nw = e.q *ℤ w +ℤ e.p *ℤ k in
        let x = mix (λ (p : V4). p.x) a b c u v w in
        let y = mix (λ (p : V4). p.y) a b c u v w in
        let n = mix (λ (p : V4). p.n) a b c u v w in
        let g = mix (λ (p : V4). p.n) a b c i j k in
        let same = lin e.q e.p u v w i j k a.l b.l c.l in
        let ahead = lin e.q e.p u v w i j k a.n b.n c.n in
        inr (record {
          u = nu;
          v = nv;
          w = nw;
          weights = record { u_ok = e.fine.0; v_ok = e.fine.1.0; w_ok = e.fine.1.1.0 };
          hit = record {
            near = later_near (e.q *ℤ x) (e.q *ℤ y) (e.q *ℤ n +ℤ e.p *ℤ g) _ _ _
                (moved_still (λ p. p.x) a b c e.q e.p u v w i j k d.still_x) (moved_still (λ p. p.y) a b c e.q e.p u v w i j k d.still_y) ahead
                (later_near0 x y n g e.p e.q h.near h.time d.rises e.p_ok e.q_ok);
            time = subst (λ t. (pos 0) ≤ℤ t) (sym ahead) (later_time n g e.p e.q h.time d.rises e.p_ok e.q_ok);
            side = subst (λ t. (pos 0) ≤ℤ t) (sym same) e.fine.1.1.1.0;
          };
          edge = elim e.gone [ inl z ↦ inl z | inr g1 ↦ elim g1 [ inl z ↦ inr (inl z) | inr g2 ↦ elim g2 [ inl z ↦ inr (inr (inl z)) | inr g3 ↦ elim g3 [ inl z ↦ inr (inr (inr (same ∙ z))) | inr o ↦ absurd o ] ] ] ];
        })
