-- The cut of a triangle by its level line l = 0: one corner on one side, two on the other or on the line.
use Rattle.std.proofs.Common.{◌≡◌, inl, inr, sym, ap, ◌∙◌, subst, arith}
use lib.IntN.{ℤ, pos, ◌+ℤ◌, ◌-ℤ◌, ◌*ℤ◌}
use lib.Signed.{◌<ℤ◌, ◌≤ℤ◌}
use Rattle.std.proofs.lemmas.Int.{ints}
use Rattle.mill_geom.specs.Forms.{PairHits}
use Rattle.mill_geom.proofs.Descend.{V4, mix, Weights, Hit}
use Rattle.mill_geom.proofs.DescendCerts.{lin}
use Rattle.mill_geom.proofs.Segments.{finds, never, pair_or}
use Rattle.mill_geom.proofs.SegmentCerts.{far_weight}
use Rattle.mill_geom.proofs.PairCerts.{pair_hit_far}
use Rattle.mill_base.proofs.Integers.{mul_nonneg-ℤ}
use Rattle.mill_geom.proofs.TriangleCerts.{one_x}
use Rattle.mill_geom.proofs.CutCerts.{cut_lin, cut_lin2, cut_back, cut_level, cut_level2, bal_le, bal_ge, scaled_form, quad_form, quad_near, nonneg_sum, near_of, open_near, open_time, open_over, form_neg}

-- the point of the edge from the corner p to q that is on the level line: b*p + l*q, where b is how far q is on the other side
abbrev pub on_line : (V4 → ℤ) → V4 → V4 → ℤ → ℤ
on_line f p q b = b *ℤ f p +ℤ p.l *ℤ f q

abbrev pub line_form : V4 → V4 → V4 → ℤ → ℤ → ℤ
line_form p q s b c = (on_line (λ t. t.x) p q b *ℤ on_line (λ t. t.x) p s c +ℤ on_line (λ t. t.y) p q b *ℤ on_line (λ t. t.y) p s c) -ℤ on_line (λ t. t.n) p q b *ℤ on_line (λ t. t.n) p s c

abbrev pub CutHits : V4 → V4 → V4 → ℤ → ℤ → Type 0
CutHits p q s b c = PairHits (line_form p q q b b) (line_form p q s b c) (line_form p s s c c)

both_ways : (x y : ℤ) → x ≤ℤ y → y ≤ℤ x → x ≡ y
both_ways x y h k = omega (arith, ints)

-- a hit on the level line shows in the pair of the line's two ends
pub cut_shows : (p q s : V4) (b c u v w : ℤ) → (pos 0) <ℤ p.l → q.l ≡ pos 0 -ℤ b → s.l ≡ pos 0 -ℤ c → Weights u v w → Hit p q s u v w → mix (λ t. t.l) p q s u v w ≡ pos 0 → CutHits p q s b c
cut_shows p q s b c u v w hp eq es k h e =
    elim (pair_or (line_form p q q b b) (line_form p q s b c) (line_form p s s c c)) [
      | inl t ↦ t
      | inr n ↦ absurd (quad_form v w (on_line (λ t. t.x) p q b) (on_line (λ t. t.y) p q b) (on_line (λ t. t.n) p q b) (on_line (λ t. t.x) p s c) (on_line (λ t. t.y) p s c) (on_line (λ t. t.n) p s c)
          (scaled_form p.l (mix (λ t. t.x) p q s u v w) (mix (λ t. t.y) p q s u v w) (mix (λ t. t.n) p q s u v w) _ _ _ (along p.x q.x s.x) (along p.y q.y s.y) (along p.n q.n s.n) hp h.near)
          (never _ _ _ n v w k.v_ok k.w_ok))
    ]
  where
    bal : (u v w a x y b c : ℤ) → x ≡ pos 0 -ℤ b → y ≡ pos 0 -ℤ c → (u *ℤ a +ℤ v *ℤ x) +ℤ w *ℤ y ≡ pos 0 → u *ℤ a ≡ v *ℤ b +ℤ w *ℤ c
    bal u v w a x y b c ex ey h = both_ways _ _ (bal_le u v w a x y b c ex ey h) (bal_ge u v w a x y b c ex ey h)

    along : (x y z : ℤ) → p.l *ℤ ((u *ℤ x +ℤ v *ℤ y) +ℤ w *ℤ z) ≡ v *ℤ (b *ℤ x +ℤ p.l *ℤ y) +ℤ w *ℤ (c *ℤ x +ℤ p.l *ℤ z)
    along x y z = let g = bal u v w p.l q.l s.l b c eq es e in both_ways _ _ (cut_lin p.l b c u v w x y z g) (cut_lin2 p.l b c u v w x y z g)

pub record OnLine (p q s : V4) : Type 0 where
  pub u : ℤ
  pub v : ℤ
  pub w : ℤ
  pub weights : Weights u v w
  pub near : (mix (λ t. t.x) p q s u v w *ℤ mix (λ t. t.x) p q s u v w +ℤ mix (λ t. t.y) p q s u v w *ℤ mix (λ t. t.y) p q s u v w) <ℤ (mix (λ t. t.n) p q s u v w *ℤ mix (λ t. t.n) p q s u v w)
  pub level : mix (λ t. t.l) p q s u v w ≡ pos 0

-- and back
pub cut_found : (p q s : V4) (b c : ℤ) → (pos 0) <ℤ p.l → (pos 0) ≤ℤ b → (pos 0) ≤ℤ c → q.l ≡ pos 0 -ℤ b → s.l ≡ pos 0 -ℤ c → CutHits p q s b c → OnLine p q s
cut_found p q s b c hp hb hc eq es t =
    let m = finds _ _ _ t in
    let v = m.u in let w = m.v in
    let hv = weak v m.u_ok in
    record {
      u = v *ℤ b +ℤ w *ℤ c;
      v = p.l *ℤ v;
      w = p.l *ℤ w;
      weights = record { u_ok = nonneg_sum v b w c hv hb m.v_ok hc; v_ok = prod p.l v hp hv; w_ok = prod p.l w hp m.v_ok };
      near = near_of _ _ _ _ _ _ (cut_back p.l b c v w p.x q.x s.x) (cut_back p.l b c v w p.y q.y s.y) (cut_back p.l b c v w p.n q.n s.n)
          (quad_near v w (on_line (λ t. t.x) p q b) (on_line (λ t. t.y) p q b) (on_line (λ t. t.n) p q b) (on_line (λ t. t.x) p s c) (on_line (λ t. t.y) p s c) (on_line (λ t. t.n) p s c) m.below);
      level = both_ways _ _ (cut_level p.l b c v w q.l s.l eq es) (cut_level2 p.l b c v w q.l s.l eq es);
    }
  where
    weak : (x : ℤ) → (pos 0) <ℤ x → (pos 0) ≤ℤ x
    weak x h = omega (arith, ints)

    prod : (x y : ℤ) → (pos 0) <ℤ x → (pos 0) ≤ℤ y → (pos 0) ≤ℤ (x *ℤ y)
    prod x y h k = mul_nonneg-ℤ x y (weak x h) k

-- weights far along towards a hit, from the first corner, that give a hit over the level line
pub record Opens (a b c : V4) (u v w : ℤ) : Type 0 where
  pub k : ℤ
  pub k_ok : (pos 0) ≤ℤ k
  pub hit : Hit a b c (k *ℤ u +ℤ pos 1 *ℤ pos 1) (k *ℤ v +ℤ pos 1 *ℤ pos 0) (k *ℤ w +ℤ pos 1 *ℤ pos 0)
  pub over : (pos 0) <ℤ mix (λ t. t.l) a b c (k *ℤ u +ℤ pos 1 *ℤ pos 1) (k *ℤ v +ℤ pos 1 *ℤ pos 0) (k *ℤ w +ℤ pos 1 *ℤ pos 0)

-- a hit with a corner over the level line gives a hit that is over it
pub opens : (a b c : V4) (u v w : ℤ) → (pos 0) <ℤ a.l → (pos 0) ≤ℤ a.n → Weights u v w → Hit a b c u v w
    → Opens a b c u v w
opens a b c u v w hl hn s h =
    let x = mix (λ (t : V4). t.x) a b c u v w in
    let y = mix (λ (t : V4). t.y) a b c u v w in
    let n = mix (λ (t : V4). t.n) a b c u v w in
    let l = mix (λ (t : V4). t.l) a b c u v w in
    let m = (a.x *ℤ a.x +ℤ a.y *ℤ a.y) -ℤ a.n *ℤ a.n in
    let d = (a.x *ℤ x +ℤ a.y *ℤ y) -ℤ a.n *ℤ n in
    let k = (m *ℤ m +ℤ d *ℤ d) +ℤ pos 3 in
    let hk = far_weight m d in
    let at = λ (fa fb fc : ℤ). lin k (pos 1) u v w (pos 1) (pos 0) (pos 0) fa fb fc ∙ ap (λ t. k *ℤ ((u *ℤ fa +ℤ v *ℤ fb) +ℤ w *ℤ fc) +ℤ pos 1 *ℤ t) (one_x fa fb fc) in
    record {
      k = k;
      k_ok = hk;
      hit = record {
        near = near_of _ _ _ _ _ _ (at a.x b.x c.x) (at a.y b.y c.y) (at a.n b.n c.n) (open_near u v w a.x a.y a.n x y n k (pair_hit_far m d ((x *ℤ x +ℤ y *ℤ y) -ℤ n *ℤ n) (form_neg x y n h.near)));
        time = subst (λ t. (pos 0) ≤ℤ t) (sym (at a.n b.n c.n)) (open_time k n a.n hk h.time hn);
        side = subst (λ t. (pos 0) ≤ℤ t) (sym (at a.l b.l c.l)) (open_time k l a.l hk h.side (weak a.l hl));
      };
      over = subst (λ t. (pos 0) <ℤ t) (sym (at a.l b.l c.l)) (open_over k l a.l hk h.side hl);
    }
  where
    weak : (x : ℤ) → (pos 0) <ℤ x → (pos 0) ≤ℤ x
    weak x h = omega (arith, ints)
