-- A quadratic form on the part of a segment between two blends: it is negative somewhere exactly where the pair of the blends' own forms says so.
use Rattle.std.proofs.Common.{◌≡◌, ◌⊎◌, inl, inr, arith}
use lib.IntN.{ℤ, pos, ◌+ℤ◌, ◌-ℤ◌, ◌*ℤ◌}
use lib.Signed.{◌<ℤ◌, ◌≤ℤ◌}
use Rattle.std.proofs.lemmas.Int.{ints}
use Rattle.mill_geom.specs.Forms.{PairHits}
use Rattle.mill_geom.proofs.Segments.{finds, never, pair_or}
use Rattle.mill_geom.proofs.LevelCerts.{minor_yes, minor_no, square_above}
use Rattle.mill_contact_cone.specs.declared.quadratic.Form.{Form}
use Rattle.mill_contact_cone.specs.declared.quadratic.Blend.{Blend}
use Rattle.mill_contact_cone.specs.inner.Quadratics.{value_of, polar_of, turn_of, HitsBetween, IsStart}
use Rattle.mill_contact_cone.proofs.PartCerts.{polar_value, polar_scaled, polar_minor, scaled_negative, blend_after, blend_before, blend_least, start_zone_up, start_zone_down, start_back_up, start_back_down, start_apart_up, start_apart_down}

-- the tests of the part's two ends
abbrev pub PartHits : Form → Blend → Blend → Type 0
PartHits f p q = (polar_of f p p <ℤ pos 0) ⊎ ((polar_of f q q <ℤ pos 0) ⊎ ((polar_of f p q <ℤ pos 0) × ((f.a *ℤ f.b) <ℤ (f.h *ℤ f.h))))

weak : (x : ℤ) → (pos 0) <ℤ x → (pos 0) ≤ℤ x
weak x h = omega (arith, ints)

below : (x y : ℤ) → x ≡ y → x <ℤ pos 0 → y <ℤ pos 0
below x y e h = omega (arith, ints)

-- they are those of the pair of the blends' own forms
part_pair : (f : Form) (p q : Blend) → (pos 0) <ℤ turn_of p q → PartHits f p q → PairHits (polar_of f p p) (polar_of f p q) (polar_of f q q)
part_pair f p q d (inl h) = inl h
part_pair f p q d (inr (inl h)) = inr (inl h)
part_pair f p q d (inr (inr h)) = inr (inr (
  h.0,
  minor_yes (polar_of f p q *ℤ polar_of f p q) (polar_of f p p) (polar_of f q q) (turn_of p q *ℤ turn_of p q) (f.h *ℤ f.h) (f.a *ℤ f.b)
      (polar_minor f.a f.h f.b p.u p.v q.u q.v) (square_above _ d) h.1,
))

pair_part : (f : Form) (p q : Blend) → (pos 0) <ℤ turn_of p q → PairHits (polar_of f p p) (polar_of f p q) (polar_of f q q) → PartHits f p q
pair_part f p q d (inl h) = inl h
pair_part f p q d (inr (inl h)) = inr (inl h)
pair_part f p q d (inr (inr h)) = inr (inr (
  h.0,
  minor_no (polar_of f p q *ℤ polar_of f p q) (polar_of f p p) (polar_of f q q) (turn_of p q *ℤ turn_of p q) (f.h *ℤ f.h) (f.a *ℤ f.b)
      (polar_minor f.a f.h f.b p.u p.v q.u q.v) (square_above _ d) h.1,
))

-- the tests find weights between the blends
pub part_found : (f : Form) (p q : Blend) → (pos 0) <ℤ turn_of p q → (pos 0) ≤ℤ p.u → (pos 0) ≤ℤ p.v → (pos 0) ≤ℤ q.u → (pos 0) ≤ℤ q.v → PartHits f p q → HitsBetween f p q
part_found f p q d pu pv qu qv t =
    let m = finds _ _ _ (part_pair f p q d t) in
    record {
      u = m.u *ℤ p.u +ℤ m.v *ℤ q.u;
      v = m.u *ℤ p.v +ℤ m.v *ℤ q.v;
      u_ok = blend_least m.u m.v p.u q.u (weak _ m.u_ok) m.v_ok pu qu;
      v_ok = blend_least m.u m.v p.v q.v (weak _ m.u_ok) m.v_ok pv qv;
      after = blend_after p.u p.v q.u q.v m.u m.v m.v_ok d;
      before = blend_before p.u p.v q.u q.v m.u m.v (weak _ m.u_ok) d;
      negative = below _ _ (polar_value f.a f.h f.b p.u p.v q.u q.v m.u m.v) m.below;
    }

-- weights between the blends show in the tests
pub part_shows : (f : Form) (p q : Blend) → (pos 0) <ℤ turn_of p q → HitsBetween f p q → PartHits f p q
part_shows f p q d t =
    elim (pair_or (polar_of f p p) (polar_of f p q) (polar_of f q q)) [
      | inl h ↦ pair_part f p q d h
      | inr n ↦ absurd (scaled_negative (turn_of p q) (value_of f t.u t.v) _ d t.negative (polar_scaled f.a f.h f.b p.u p.v q.u q.v t.u t.v)
          (never _ _ _ n (t.u *ℤ q.v -ℤ t.v *ℤ q.u) (p.u *ℤ t.v -ℤ p.v *ℤ t.u) t.before t.after))
    ]

-- from a start on, the quantity isn't negative, and back
pub start_zone : (f g : ℤ) (p : Blend) (u v : ℤ) → IsStart f g p → (pos 0) ≤ℤ v → (pos 0) ≤ℤ (u *ℤ f +ℤ v *ℤ g) → (pos 0) ≤ℤ (p.u *ℤ v -ℤ p.v *ℤ u)
start_zone f g p u v (inl s) hv h = start_zone_up f g p.u p.v u v s.1.0 s.1.1 hv
start_zone f g p u v (inr s) hv h = start_zone_down f g p.u p.v u v s.1.0 s.1.1 h

pub start_back : (f g : ℤ) (p : Blend) (u v : ℤ) → IsStart f g p → (pos 0) ≤ℤ g → (pos 0) ≤ℤ u → (pos 0) ≤ℤ v → (pos 0) ≤ℤ (p.u *ℤ v -ℤ p.v *ℤ u) → (pos 0) ≤ℤ (u *ℤ f +ℤ v *ℤ g)
start_back f g p u v (inl s) hg hu hv h = start_back_up f g u v s.0 hg hu hv
start_back f g p u v (inr s) hg hu hv h = start_back_down f g p.u p.v u v s.1.0 s.1.1 h

pub start_apart : (f g : ℤ) (p : Blend) (u v : ℤ) → IsStart f g p → (pos 0) <ℤ v → (pos 0) <ℤ (u *ℤ f +ℤ v *ℤ g) → (pos 0) <ℤ (p.u *ℤ v -ℤ p.v *ℤ u)
start_apart f g p u v (inl s) hv h = start_apart_up p.u p.v u v s.1.0 s.1.1 hv
start_apart f g p u v (inr s) hv h = start_apart_down f g p.u p.v u v s.1.0 s.1.1 h
