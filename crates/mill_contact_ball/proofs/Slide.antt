-- The descent for any quadratic form: a point of a triangle at which the form is negative, and a direction along which it doesn't rise.
use Rattle.std.proofs.Common.{◌≡◌, ◌⊎◌, inl, inr, List, [], ◌∷◌, sym, subst}
use lib.IntN.{ℤ, pos, ◌+ℤ◌, ◌-ℤ◌, ◌*ℤ◌}
use lib.Signed.{◌<ℤ◌, ◌≤ℤ◌}
use Rattle.mill_base.proofs.Exit.{Line, NeverFalls, Exit, exit}
use Rattle.mill_geom.proofs.Descend.{Weights}
use Rattle.mill_geom.proofs.DescendCerts.{lin}
use Rattle.mill_contact_ball.proofs.SlideCerts.{later_form, form3_moves, form_is}

-- a corner: its place and its time
pub record V : Type 0 where
  pub x : ℤ
  pub y : ℤ
  pub z : ℤ
  pub n : ℤ

abbrev pub three : ℤ → ℤ → ℤ → ℤ → ℤ → ℤ → ℤ
three fa fb fc u v w = (u *ℤ fa +ℤ v *ℤ fb) +ℤ w *ℤ fc

abbrev pub mean : V → V → V → ℤ → ℤ → ℤ → V
mean a b c u v w = record { x = three a.x b.x c.x u v w; y = three a.y b.y c.y u v w; z = three a.z b.z c.z u v w; n = three a.n b.n c.n u v w }

abbrev pub form : V → V → ℤ
form p q = ((p.x *ℤ q.x +ℤ p.y *ℤ q.y) +ℤ p.z *ℤ q.z) -ℤ p.n *ℤ q.n

pub record Rim (a b c : V) : Type 0 where
  pub u : ℤ
  pub v : ℤ
  pub w : ℤ
  pub weights : Weights u v w
  pub below : form (mean a b c u v w) (mean a b c u v w) <ℤ pos 0
  pub edge : (u ≡ pos 0) ⊎ ((v ≡ pos 0) ⊎ (w ≡ pos 0))

-- the form doesn't rise along the direction (i, j, k)
pub record Slope (a b c : V) (u v w i j k : ℤ) : Type 0 where
  pub mixed : form (mean a b c u v w) (mean a b c i j k) ≤ℤ pos 0
  pub own : form (mean a b c i j k) (mean a b c i j k) ≤ℤ pos 0

abbrev pub three_lines : ℤ → ℤ → ℤ → ℤ → ℤ → ℤ → List Line
three_lines u v w i j k = record { now = u; rate = i } ∷ (record { now = v; rate = j } ∷ (record { now = w; rate = k } ∷ []))

pub slide : (a b c : V) (u v w i j k : ℤ) → Weights u v w → form (mean a b c u v w) (mean a b c u v w) <ℤ pos 0 → Slope a b c u v w i j k
    → NeverFalls (three_lines u v w i j k) ⊎ Rim a b c
slide a b c u v w i j k s h d = by (exit (three_lines u v w i j k) (s.u_ok, (s.v_ok, (s.w_ok, tt))))
  where
    by : NeverFalls (three_lines u v w i j k) ⊎ Exit (three_lines u v w i j k) → NeverFalls (three_lines u v w i j k) ⊎ Rim a b c
    by (inl f) = inl f
    by (inr e) =
        let m = mean a b c u v w in
        let g = mean a b c i j k in
        let q = e.q in
        let p = e.p in
        inr (record {
          u = q *ℤ u +ℤ p *ℤ i;
          v = q *ℤ v +ℤ p *ℤ j;
          w = q *ℤ w +ℤ p *ℤ k;
          weights = record { u_ok = e.fine.0; v_ok = e.fine.1.0; w_ok = e.fine.1.1.0 };
          below = form_is _ _ _ _ (q *ℤ m.x +ℤ p *ℤ g.x) (q *ℤ m.y +ℤ p *ℤ g.y) (q *ℤ m.z +ℤ p *ℤ g.z) (q *ℤ m.n +ℤ p *ℤ g.n)
              (lin q p u v w i j k a.x b.x c.x) (lin q p u v w i j k a.y b.y c.y) (lin q p u v w i j k a.z b.z c.z) (lin q p u v w i j k a.n b.n c.n)
              (subst (λ t. t <ℤ pos 0) (sym (form3_moves m.x m.y m.z m.n g.x g.y g.z g.n q p)) (later_form (pos 0) q p (form m m) (form m g) (form g g) h d.mixed d.own e.p_ok e.q_ok));
          edge = elim e.gone [ inl z ↦ inl z | inr o ↦ elim o [ inl z ↦ inr (inl z) | inr o ↦ elim o [ inl z ↦ inr (inr z) | inr o ↦ absurd o ] ] ];
        })
