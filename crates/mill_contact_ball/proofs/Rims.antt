-- Corners and edges of a triangle in the sphere, by the forms of the corners.
use Rattle.std.proofs.Common.{◌≡◌, inl, inr, subst, arith}
use lib.IntN.{ℤ, pos, ◌-ℤ◌, ◌*ℤ◌}
use lib.Signed.{◌<ℤ◌, ◌≤ℤ◌}
use Rattle.std.proofs.lemmas.Int.{ints}
use Rattle.mill_geom.specs.declared.offset.Offset.{Offset}
use Rattle.mill_contact_ball.specs.inner.Vectors.{form_of}
use Rattle.mill_contact_ball.specs.inner.Spheres.{EdgeMeets, MeetsSphere}
use Rattle.mill_contact_ball.proofs.CornerCerts.{corner_first, corner_second, corner_third}
use Rattle.mill_contact_ball.proofs.Edges.{zero_ok, low_both, low_spot, no_low, ab_spot, bc_spot, ca_spot}

one_ok : (pos 0) ≤ℤ pos 1
one_ok = omega (arith, ints)

-- a corner in the sphere is a point of the triangle in it
pub first_in : (r : ℤ) (a b c : Offset) → form_of r a a <ℤ pos 0 → MeetsSphere r a b c
first_in r a b c h = record {
  at = record { u = pos 1; v = pos 0; w = pos 0 };
  spot = record { u_ok = one_ok; v_ok = zero_ok; w_ok = zero_ok; inside = record { near = corner_first a.x a.y a.z b.x b.y b.z c.x c.y c.z r h } };
}

pub second_in : (r : ℤ) (a b c : Offset) → form_of r b b <ℤ pos 0 → MeetsSphere r a b c
second_in r a b c h = record {
  at = record { u = pos 0; v = pos 1; w = pos 0 };
  spot = record { u_ok = zero_ok; v_ok = one_ok; w_ok = zero_ok; inside = record { near = corner_second a.x a.y a.z b.x b.y b.z c.x c.y c.z r h } };
}

pub third_in : (r : ℤ) (a b c : Offset) → form_of r c c <ℤ pos 0 → MeetsSphere r a b c
third_in r a b c h = record {
  at = record { u = pos 0; v = pos 0; w = pos 1 };
  spot = record { u_ok = zero_ok; v_ok = zero_ok; w_ok = one_ok; inside = record { near = corner_third a.x a.y a.z b.x b.y b.z c.x c.y c.z r h } };
}

-- between two ends out of the sphere the forms tell whether the edge meets it
pub dips_in : (r : ℤ) (p q : Offset) (a h b : ℤ) → a ≡ form_of r p p → h ≡ form_of r p q → b ≡ form_of r q q → (pos 0) ≤ℤ form_of r p p → (pos 0) ≤ℤ form_of r q q
    → h <ℤ pos 0 → (a *ℤ b) <ℤ (h *ℤ h) → EdgeMeets r p q
dips_in r p q a h b ea eh eb hp hq hh m =
    let low = low_both (form_of r p p) (form_of r p q) (form_of r q q) hp hq (rw eh at hh) (rw (ea, eh, eb) at m) in
    record { at = record { u = form_of r q q -ℤ form_of r p q; v = form_of r p p -ℤ form_of r p q }; spot = low_spot r p q _ low }

below : (x : ℤ) → (pos 0) ≤ℤ x → x <ℤ pos 0 → ⊥
below x h k = omega (arith, ints)

-- the edge turns away from the centre at no place, or keeps out where it does
pub level_out : (r : ℤ) (p q : Offset) (h : ℤ) → h ≡ form_of r p q → (pos 0) ≤ℤ form_of r p p → (pos 0) ≤ℤ form_of r q q → (pos 0) ≤ℤ h → EdgeMeets r p q → ⊥
level_out r p q h eh hp hq hh = no_low r p q (λ t. elim t [
  | inl l ↦ below (form_of r p p) hp l
  | inr s ↦ elim s [ inl l ↦ below (form_of r q q) hq l | inr m ↦ below (form_of r p q) (subst (λ x. (pos 0) ≤ℤ x) eh hh) m.0 ]
])

pub dips_out : (r : ℤ) (p q : Offset) (a h b : ℤ) → a ≡ form_of r p p → h ≡ form_of r p q → b ≡ form_of r q q → (pos 0) ≤ℤ form_of r p p → (pos 0) ≤ℤ form_of r q q
    → ((a *ℤ b) <ℤ (h *ℤ h) → ⊥) → EdgeMeets r p q → ⊥
dips_out r p q a h b ea eh eb hp hq n = no_low r p q (λ t. elim t [
  | inl l ↦ below (form_of r p p) hp l
  | inr s ↦ elim s [ inl l ↦ below (form_of r q q) hq l | inr m ↦ n (rw (ea, eh, eb) m.1) ]
])

-- an edge's point in the sphere is one of the triangle's
pub ab_in : (r : ℤ) (a b c : Offset) → EdgeMeets r a b → MeetsSphere r a b c
ab_in r a b c t = record { at = record { u = t.at.u; v = t.at.v; w = pos 0 }; spot = ab_spot r a b c t.at t.spot }

pub bc_in : (r : ℤ) (a b c : Offset) → EdgeMeets r b c → MeetsSphere r a b c
bc_in r a b c t = record { at = record { u = pos 0; v = t.at.u; w = t.at.v }; spot = bc_spot r a b c t.at t.spot }

pub ca_in : (r : ℤ) (a b c : Offset) → EdgeMeets r c a → MeetsSphere r a b c
ca_in r a b c t = record { at = record { u = t.at.v; v = pos 0; w = t.at.u }; spot = ca_spot r a b c t.at t.spot }
