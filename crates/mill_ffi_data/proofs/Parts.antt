-- A part's triangles, made of numbers that are in range.
use Rattle.std.proofs.Common.{◌≡◌, refl, ap, ◌∙◌}
use Rattle.std.specs.Prelude.{List, [], ◌∷◌, All, length}
use Rattle.std.specs.List.{AllZip}
use Rattle.std.proofs.lemmas.List.{length-map}
use Rattle.std.proofs.lemmas.List.Elements.{All-contains, All-map}
use Rattle.mill_base.specs.Ranges.{TriInRange, TrisInRange}
use Rattle.mill_base.specs.declared.points.Tri.{Tri}
use Rattle.mill_ffi_data.specs.Raw.{IsTriangle, tri_of, tris_of}
use Rattle.mill_ffi_data.specs.declared.raw.RawTriangle.{RawTriangle}

pub in_range_of : (raws : List RawTriangle) → All IsTriangle raws → TrisInRange (tris_of raws)
in_range_of raws fine tri there = All-contains TriInRange (tris_of raws) tri (All-map TriInRange tri_of raws fine) there

pub length-tris_of : (raws : List RawTriangle) → length (tris_of raws) ≡ length raws
length-tris_of raws = length-map raws tri_of

-- the triangle of these numbers is this one
abbrev pub IsTriOf : Tri → RawTriangle → Type 0
IsTriOf tri raw = tri_of raw ≡ tri

pub tris_of-zip : (tris : List Tri) (raws : List RawTriangle) → AllZip IsTriOf tris raws → tris_of raws ≡ tris
tris_of-zip [] [] h = refl
tris_of-zip [] (raw ∷ raws) h = absurd h
tris_of-zip (tri ∷ tris) [] h = absurd h
tris_of-zip (tri ∷ tris) (raw ∷ raws) h = ap (λ first. first ∷ tris_of raws) h.0 ∙ ap (λ (rest : List Tri). tri ∷ rest) (tris_of-zip tris raws h.1)
