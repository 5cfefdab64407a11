-- Points of an edge in the sphere, by the forms of its ends; and edges' points as a triangle's.
use Rattle.std.proofs.Common.{arith}
use lib.IntN.{ℤ, pos, ◌-ℤ◌, ◌*ℤ◌}
use lib.Signed.{◌<ℤ◌, ◌≤ℤ◌}
use Rattle.std.proofs.lemmas.Int.{ints}
use Rattle.mill_geom.specs.declared.offset.Offset.{Offset}
use Rattle.mill_geom.specs.Forms.{PairHits}
use Rattle.mill_geom.proofs.Segments.{never}
use Rattle.mill_contact_ball.specs.declared.weights.EdgeWeights.{EdgeWeights}
use Rattle.mill_contact_ball.specs.inner.Vectors.{form_of}
use Rattle.mill_contact_ball.specs.inner.Spheres.{IsLow, IsEdgeSpot, EdgeMeets, IsSpot}
use Rattle.mill_contact_ball.proofs.EdgeCerts.{low_minor, edge_near, edge_far, spot_ab, spot_bc, spot_ca}

-- neither end alone is low, and the two together are
pub low_both : (a h b : ℤ) → (pos 0) ≤ℤ a → (pos 0) ≤ℤ b → h <ℤ pos 0 → (a *ℤ b) <ℤ (h *ℤ h) → IsLow a h b (record { u = b -ℤ h; v = a -ℤ h })
low_both a h b ha hb hh m = record { u_ok = omega (arith, ints); v_ok = omega (arith, ints); below = low_minor a h b ha hb hh m }

-- low weights of the forms of two ends are those of a point in the sphere, and back
pub low_spot : (r : ℤ) (p q : Offset) (s : EdgeWeights) → IsLow (form_of r p p) (form_of r p q) (form_of r q q) s → IsEdgeSpot r p q s
low_spot r p q s l = record { u_ok = l.u_ok; v_ok = l.v_ok; inside = record { near = edge_near p.x p.y p.z q.x q.y q.z r s.u s.v l.below } }

pub no_low : (r : ℤ) (p q : Offset) → (PairHits (form_of r p p) (form_of r p q) (form_of r q q) → ⊥) → EdgeMeets r p q → ⊥
no_low r p q n t =
    edge_far p.x p.y p.z q.x q.y q.z r t.at.u t.at.v t.spot.inside.near (never (form_of r p p) (form_of r p q) (form_of r q q) n t.at.u t.at.v t.spot.u_ok t.spot.v_ok)

pub zero_ok : (pos 0) ≤ℤ pos 0
zero_ok = omega (arith, ints)

-- a point of an edge is one of the triangle
pub ab_spot : (r : ℤ) (a b c : Offset) (s : EdgeWeights) → IsEdgeSpot r a b s → IsSpot r a b c (record { u = s.u; v = s.v; w = pos 0 })
ab_spot r a b c s t = record { u_ok = t.u_ok; v_ok = t.v_ok; w_ok = zero_ok; inside = record { near = spot_ab s.u s.v a.x a.y a.z b.x b.y b.z c.x c.y c.z r t.inside.near } }

pub bc_spot : (r : ℤ) (a b c : Offset) (s : EdgeWeights) → IsEdgeSpot r b c s → IsSpot r a b c (record { u = pos 0; v = s.u; w = s.v })
bc_spot r a b c s t = record { u_ok = zero_ok; v_ok = t.u_ok; w_ok = t.v_ok; inside = record { near = spot_bc s.u s.v a.x a.y a.z b.x b.y b.z c.x c.y c.z r t.inside.near } }

pub ca_spot : (r : ℤ) (a b c : Offset) (s : EdgeWeights) → IsEdgeSpot r c a s → IsSpot r a b c (record { u = s.v; v = pos 0; w = s.u })
ca_spot r a b c s t = record { u_ok = t.v_ok; v_ok = zero_ok; w_ok = t.u_ok; inside = record { near = spot_ca s.u s.v a.x a.y a.z b.x b.y b.z c.x c.y c.z r t.inside.near } }
