-- A triangle whose box, drawn down without end, keeps off the sphere has no point in it and none in the cylinder over its centre.
use Rattle.std.proofs.Common.{◌≡◌, inl, inr, subst, arith}
use lib.IntN.{ℤ, pos, ◌+ℤ◌, ◌*ℤ◌}
use lib.Signed.{◌<ℤ◌, ◌≤ℤ◌}
use Rattle.std.proofs.lemmas.Int.{ints}
use Rattle.mill_base.specs.Numbers.{lesser}
use Rattle.mill_base.proofs.Exit.{split_lt}
use Rattle.mill_geom.specs.declared.offset.Offset.{Offset}
use Rattle.mill_geom.specs.Offsets.{mean3}
use Rattle.mill_geom.specs.Gaps.{AllApart, AllUpTo}
use Rattle.mill_contact_ball.specs.inner.Spheres.{MeetsBall}
use Rattle.mill_contact_ball.proofs.FootCerts.{add3_nonneg as time_ok}
use Rattle.mill_contact_ball.proofs.GapCerts.{under_far, beside_far, axis_far, under_centre}

-- the box reaches over the centre: its distance from the axis counts
over_none : (r : ℤ) (a b c : Offset) (gap : ℤ) → AllApart gap a b c → (r *ℤ r) ≤ℤ (pos 0 *ℤ pos 0 +ℤ gap) → MeetsBall r a b c → ⊥
over_none r a b c gap apart far (inl t) =
    let s = t.at in
    let k = t.spot in
    let m = mean3 s.u s.v s.w a b c in
    beside_far m.x m.y m.z ((s.u +ℤ s.v) +ℤ s.w) gap r (apart s.u s.v s.w k.u_ok k.v_ok k.w_ok) far k.inside.near
over_none r a b c gap apart far (inr t) =
    let m = mean3 t.u t.v t.w a b c in
    axis_far m.x m.y ((t.u +ℤ t.v) +ℤ t.w) gap r (apart t.u t.v t.w t.u_ok t.v_ok t.w_ok) far t.inside.near

-- it doesn't: its top counts, too
under_none : (r : ℤ) (a b c : Offset) (top gap : ℤ) → AllUpTo top a b c → AllApart gap a b c → top ≤ℤ pos 0 → (r *ℤ r) ≤ℤ (top *ℤ top +ℤ gap) → MeetsBall r a b c → ⊥
under_none r a b c top gap up apart low far (inl t) =
    let s = t.at in
    let k = t.spot in
    let m = mean3 s.u s.v s.w a b c in
    under_far m.x m.y m.z ((s.u +ℤ s.v) +ℤ s.w) gap top r (time_ok s.u s.v s.w k.u_ok k.v_ok k.w_ok) low (apart s.u s.v s.w k.u_ok k.v_ok k.w_ok) (up s.u s.v s.w k.u_ok k.v_ok k.w_ok) far k.inside.near
under_none r a b c top gap up apart low far (inr t) =
    under_centre (mean3 t.u t.v t.w a b c).z ((t.u +ℤ t.v) +ℤ t.w) top (time_ok t.u t.v t.w t.u_ok t.v_ok t.w_ok) low (up t.u t.v t.w t.u_ok t.v_ok t.w_ok) t.inside.over

at_centre : (top height : ℤ) → height ≡ lesser top (pos 0) → (pos 0) <ℤ top → height ≡ pos 0
at_centre top height e h = grind (e, h, arith, ints)

at_top : (top height : ℤ) → height ≡ lesser top (pos 0) → top ≤ℤ pos 0 → height ≡ top
at_top top height e h = grind (e, h, arith, ints)

at_least : (x y : ℤ) → (x <ℤ y → ⊥) → y ≤ℤ x
at_least x y h = elim (split_lt x y) [ inl l ↦ absurd (h l) | inr l ↦ l ]

pub box_far : (r : ℤ) (a b c : Offset) (top height gap : ℤ) → AllUpTo top a b c → AllApart gap a b c → height ≡ lesser top (pos 0) → ((height *ℤ height +ℤ gap) <ℤ (r *ℤ r) → ⊥)
    → MeetsBall r a b c → ⊥
box_far r a b c top height gap up apart e far t =
    let out = at_least (height *ℤ height +ℤ gap) (r *ℤ r) far in
    elim (split_lt (pos 0) top) [
      | inl high ↦ over_none r a b c gap apart (subst (λ s. (r *ℤ r) ≤ℤ (s *ℤ s +ℤ gap)) (at_centre top height e high) out) t
      | inr low ↦ under_none r a b c top gap up apart low (subst (λ s. (r *ℤ r) ≤ℤ (s *ℤ s +ℤ gap)) (at_top top height e low) out) t
    ]
