-- Exact contact of the flat cutter with a segment.
use Rattle.std.proofs.Common.{◌≡◌, ◌⊎◌, inl, inr, ◌↔◌, refl, subst, arith}
use lib.IntN.{ℤ, pos, ◌+ℤ◌, ◌-ℤ◌, ◌*ℤ◌}
use lib.Signed.{◌<ℤ◌, ◌≤ℤ◌}
use Rattle.std.proofs.lemmas.Int.{ints}
use Rattle.mill_geom.specs.declared.offset.Offset.{Offset}
use Rattle.mill_geom.specs.Forms.{PairHits, form_of}
use Rattle.mill_geom.specs.Contacts.{TouchesSegment}
use Rattle.mill_base.proofs.Exit.{split_lt}
use Rattle.mill_geom.proofs.PairCerts.{pair_free_plus, pair_free_minor, pair_free_zero, pair_hit_far, pair_hit_minor, pair_hit_zero}
use Rattle.mill_geom.proofs.SegmentCerts.{seg_near, seg_far, seg_over, seg_some, seg_low, cut_near, cut_over, cut_first, cut_second, cut_some, cut_far, cut_up, minor_to, minor_from, far_weight, turn_some, turn_near, turn_over}

abbrev pub quad : ℤ → ℤ → ℤ → ℤ → ℤ → ℤ
quad a h b u v = (a *ℤ (u *ℤ u) +ℤ pos 2 *ℤ (h *ℤ (u *ℤ v))) +ℤ b *ℤ (v *ℤ v)

-- weights at which the form is negative, the first of them positive
pub record Below (a h b : ℤ) : Type 0 where
  pub u : ℤ
  pub v : ℤ
  pub u_ok : (pos 0) <ℤ u
  pub v_ok : (pos 0) ≤ℤ v
  pub below : quad a h b u v <ℤ pos 0

one_ok : (pos 0) <ℤ pos 1
one_ok = omega (arith, ints)

-- 0 or more
pub zero_or : (a : ℤ) → (pos 0) ≤ℤ a → (a ≡ pos 0) ⊎ ((pos 0) <ℤ a)
zero_or a h = elim (split_lt (pos 0) a) [ inl l ↦ inr l | inr l ↦ inl (omega (arith, ints)) ]

pub finds : (a h b : ℤ) → PairHits a h b → Below a h b
finds a h b t = by (split_lt a (pos 0)) (split_lt b (pos 0)) t
  where
    by : (a <ℤ pos 0) ⊎ ((pos 0) ≤ℤ a) → (b <ℤ pos 0) ⊎ ((pos 0) ≤ℤ b) → PairHits a h b → Below a h b
    by (inl l) s t = record { u = pos 1; v = pos 0; u_ok = one_ok; v_ok = omega (arith, ints); below = omega (arith, ints) }
    by (inr l) (inl s) t = record { u = pos 1; v = (a *ℤ a +ℤ h *ℤ h) +ℤ pos 3; u_ok = one_ok; v_ok = far_weight a h; below = pair_hit_far a h b s }
    by (inr l) (inr s) (inl x) = absurd (omega (arith, ints))
    by (inr l) (inr s) (inr (inl x)) = absurd (omega (arith, ints))
    by (inr l) (inr s) (inr (inr x)) = deep (zero_or a l)
      where
        deep : (a ≡ pos 0) ⊎ ((pos 0) <ℤ a) → Below a h b
        deep (inl e) = let hh = x.0 in record { u = b +ℤ pos 1; v = pos 1; u_ok = omega (arith, ints); v_ok = omega (arith, ints); below = rw e (pair_hit_zero h b hh s) }
        deep (inr p) = let hh = x.0 in record { u = pos 0 -ℤ h; v = a; u_ok = omega (arith, ints); v_ok = l; below = pair_hit_minor a h b p x.1 }

pub never : (a h b : ℤ) → (PairHits a h b → ⊥) → (u v : ℤ) → (pos 0) ≤ℤ u → (pos 0) ≤ℤ v → (pos 0) ≤ℤ quad a h b u v
never a h b n u v hu hv = by (split_lt a (pos 0)) (split_lt b (pos 0)) (split_lt h (pos 0)) (split_lt (a *ℤ b) (h *ℤ h))
  where
    by : (a <ℤ pos 0) ⊎ ((pos 0) ≤ℤ a) → (b <ℤ pos 0) ⊎ ((pos 0) ≤ℤ b) → (h <ℤ pos 0) ⊎ ((pos 0) ≤ℤ h) → ((a *ℤ b) <ℤ (h *ℤ h)) ⊎ ((h *ℤ h) ≤ℤ (a *ℤ b)) → (pos 0) ≤ℤ quad a h b u v
    by (inl l) s t m = absurd (n (inl l))
    by (inr l) (inl s) t m = absurd (n (inr (inl s)))
    by (inr l) (inr s) (inl t) (inl m) = absurd (n (inr (inr (t, m))))
    by (inr l) (inr s) (inl t) (inr m) = elim (zero_or a l) [ inl e ↦ rw e (pair_free_zero h b u v s (subst (λ x. (h *ℤ h) ≤ℤ (x *ℤ b)) e m)) | inr p ↦ pair_free_minor a h b u v p m ]
    by (inr l) (inr s) (inr t) m = pair_free_plus a h b u v l s t hu hv

-- PairHits holds or not
pub pair_or : (a h b : ℤ) → PairHits a h b ⊎ (PairHits a h b → ⊥)
pair_or a h b = by (split_lt a (pos 0)) (split_lt b (pos 0)) (split_lt h (pos 0)) (split_lt (a *ℤ b) (h *ℤ h))
  where
    clash : (x y : ℤ) → x <ℤ y → y ≤ℤ x → ⊥
    clash x y p q = omega (arith, ints)

    by : (a <ℤ pos 0) ⊎ ((pos 0) ≤ℤ a) → (b <ℤ pos 0) ⊎ ((pos 0) ≤ℤ b) → (h <ℤ pos 0) ⊎ ((pos 0) ≤ℤ h) → ((a *ℤ b) <ℤ (h *ℤ h)) ⊎ ((h *ℤ h) ≤ℤ (a *ℤ b)) → PairHits a h b ⊎ (PairHits a h b → ⊥)
    by (inl l) s t m = inl (inl l)
    by (inr l) (inl s) t m = inl (inr (inl s))
    by (inr l) (inr s) (inl t) (inl m) = inl (inr (inr (t, m)))
    by (inr l) (inr s) (inl t) (inr m) = inr (λ x. elim x [ inl y ↦ clash a (pos 0) y l | inr y ↦ elim y [ inl z ↦ clash b (pos 0) z s | inr z ↦ clash (a *ℤ b) (h *ℤ h) z.1 m ] ])
    by (inr l) (inr s) (inr t) m = inr (λ x. elim x [ inl y ↦ clash a (pos 0) y l | inr y ↦ elim y [ inl z ↦ clash b (pos 0) z s | inr z ↦ clash h (pos 0) z.0 t ] ])

weaken : (x : ℤ) → (pos 0) <ℤ x → (pos 0) ≤ℤ x
weaken x h = omega (arith, ints)

-- both ends up: the test of the two ends
pub up_hits : (r : ℤ) (p q : Offset) → (pos 0) <ℤ p.z → (pos 0) ≤ℤ q.z → PairHits (form_of r p p) (form_of r p q) (form_of r q q) ↔ TouchesSegment r p q
up_hits r p q hp hq = (
  λ t. let w = finds (form_of r p p) (form_of r p q) (form_of r q q) t in
      record {
        u = w.u;
        v = w.v;
        u_ok = weaken w.u w.u_ok;
        v_ok = w.v_ok;
        some = seg_some w.u w.v w.u_ok w.v_ok;
        inside = record { near = seg_near p.x p.y q.x q.y r w.u w.v w.below; over = seg_over w.u w.v p.z q.z w.u_ok w.v_ok hp hq };
      },
  λ s. elim (pair_or (form_of r p p) (form_of r p q) (form_of r q q)) [
    | inl t ↦ t
    | inr n ↦ absurd (seg_far p.x p.y q.x q.y r s.u s.v s.inside.near (never (form_of r p p) (form_of r p q) (form_of r q q) n s.u s.v s.u_ok s.v_ok))
  ],
)

-- both ends down or level
pub down_misses : (r : ℤ) (p q : Offset) → p.z ≤ℤ pos 0 → q.z ≤ℤ pos 0 → TouchesSegment r p q → ⊥
down_misses r p q hp hq s = seg_low s.u s.v p.z q.z s.u_ok s.v_ok hp hq s.inside.over

pub turned : (r : ℤ) (p q : Offset) → TouchesSegment r p q → TouchesSegment r q p
turned r p q s = record {
  u = s.v;
  v = s.u;
  u_ok = s.v_ok;
  v_ok = s.u_ok;
  some = turn_some s.u s.v s.some;
  inside = record { near = turn_near s.u s.v p.x q.x p.y q.y r s.inside.near; over = turn_over s.u s.v p.z q.z s.inside.over };
}

-- the forms of p and of the point where the segment comes to the tip's height
abbrev pub cut_mid : ℤ → ℤ → ℤ → ℤ → ℤ
cut_mid a h z w = (pos 0 -ℤ w) *ℤ a +ℤ z *ℤ h

abbrev pub cut_end : ℤ → ℤ → ℤ → ℤ → ℤ → ℤ
cut_end a h b z w = ((pos 0 -ℤ w) *ℤ (pos 0 -ℤ w) *ℤ a +ℤ pos 2 *ℤ (z *ℤ (pos 0 -ℤ w) *ℤ h)) +ℤ z *ℤ z *ℤ b

negated : (w : ℤ) → w <ℤ pos 0 → (pos 0) <ℤ (pos 0 -ℤ w)
negated w h = omega (arith, ints)

-- one end up, one down: the test of the end that is up and the point at the tip's height
pub cut_hits : (r : ℤ) (p q : Offset) → (pos 0) <ℤ p.z → q.z <ℤ pos 0
    → PairHits (form_of r p p) (cut_mid (form_of r p p) (form_of r p q) p.z q.z) (cut_end (form_of r p p) (form_of r p q) (form_of r q q) p.z q.z) ↔ TouchesSegment r p q
cut_hits r p q hp hq =
    let a = form_of r p p in
    let h = cut_mid (form_of r p p) (form_of r p q) p.z q.z in
    let e = cut_end (form_of r p p) (form_of r p q) (form_of r q q) p.z q.z in
    let b = pos 0 -ℤ q.z in
    let nb = negated q.z hq in (
      λ t. let w = finds a h e t in
          record {
            u = w.u +ℤ b *ℤ w.v;
            v = p.z *ℤ w.v;
            u_ok = cut_first w.u w.v p.z b w.u_ok w.v_ok nb;
            v_ok = cut_second w.v p.z w.v_ok hp;
            some = cut_some w.u w.v p.z b w.u_ok w.v_ok nb hp;
            inside = record { near = cut_near p.x p.y q.x q.y r p.z b w.u w.v w.below; over = cut_over w.u w.v p.z b p.z q.z refl refl w.u_ok hp };
          },
      λ s. elim (pair_or a h e) [
        | inl t ↦ t
        | inr n ↦ absurd (cut_far p.x p.y q.x q.y r p.z b s.u s.v hp s.inside.near (never a h e n (p.z *ℤ s.u -ℤ b *ℤ s.v) s.v (cut_up s.u s.v p.z b p.z q.z refl refl s.inside.over) s.v_ok))
      ],
    )

-- the minor of that pair is that of the two ends, but for a square
pub cut_minor : (a h b z w : ℤ) → (pos 0) <ℤ z → ((a <ℤ pos 0) ⊎ ((cut_end a h b z w <ℤ pos 0) ⊎ ((cut_mid a h z w <ℤ pos 0) × ((a *ℤ b) <ℤ (h *ℤ h))))) ↔ PairHits a (cut_mid a h z w) (cut_end a h b z w)
cut_minor a h b z w hz = (
  λ t. elim t [ inl x ↦ inl x | inr y ↦ elim y [ inl x ↦ inr (inl x) | inr x ↦ inr (inr (x.0, minor_to a h b z (pos 0 -ℤ w) hz x.1)) ] ],
  λ t. elim t [ inl x ↦ inl x | inr y ↦ elim y [ inl x ↦ inr (inl x) | inr x ↦ inr (inr (x.0, minor_from a h b z (pos 0 -ℤ w) hz x.1)) ] ],
)
