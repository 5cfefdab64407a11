-- The triangle that the code reads is the one that the definitions speak of, whatever stands for a missing one.
use Rattle.std.specs.Prelude.{◌≡◌, ℕ, ◌<◌, List, length, slice_index_or}
use Rattle.std.proofs.Common.{subst, ap, ◌∙◌}
use Rattle.std.proofs.lemmas.List.{get_or_default}
use Rattle.mill_base.specs.declared.points.Tri.{Tri}
use Rattle.mill_base.specs.Points.{tri_at}

tri_read : (tris part : List Tri) (t : ℕ) (d : Tri) → tris ≡ part → t < length tris → slice_index_or tris t d ≡ tri_at part t
tri_read tris part t d e h = get_or_default tris t d _ h ∙ ap (λ (v : List Tri). tri_at v t) e

-- a fact about the triangle that was read
pub at_tri : (P : Tri → Type 0) (tris part : List Tri) (t : ℕ) (d : Tri) → tris ≡ part → t < length tris → P (slice_index_or tris t d) → P (tri_at part t)
at_tri P tris part t d same there p = subst P (tri_read tris part t d same there) p
