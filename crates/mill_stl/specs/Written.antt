-- The text that is written for a list of triangles, and what it reads as.
use Rattle.std.specs.Prelude.{◌≡◌, ℕ, ℤ, codes, List, [], ◌∷◌, ◌++◌, Ok}
use Rattle.std.specs.List.{flat_map}
use Rattle.mill_base.specs.declared.points.Pt3.{Pt3}
use Rattle.mill_base.specs.declared.points.Tri.{Tri}
use Rattle.mill_base.specs.declared.unit.Unit.{Unit}
use Rattle.mill_decimal.specs.declared.snap.Snap.{Snap}
use Rattle.mill_decimal.specs.Decimals.{canonical}
use Rattle.mill_stl.specs.Parts.{part_of}

-- ---- the lines of a triangle

-- a space, which is 32, and the canonical decimal of the units
abbrev pub coordinate_word : Unit → ℤ → List ℕ
coordinate_word unit units = 32 ∷ canonical unit units

-- the line of a corner
unfoldable pub vertex_line : Unit → Pt3 → List ℕ
vertex_line unit p = codes "vertex" ++ coordinate_word unit p.x ++ coordinate_word unit p.y ++ coordinate_word unit p.z

-- the lines of a triangle; its normal is the same whatever its corners are
abbrev pub facet_lines : Unit → Tri → List (List ℕ)
facet_lines unit tri =
    codes "facet normal 0 0 1"
    ∷ codes "outer loop"
    ∷ vertex_line unit tri.a
    ∷ vertex_line unit tri.b
    ∷ vertex_line unit tri.c
    ∷ codes "endloop"
    ∷ codes "endfacet"
    ∷ []

-- ---- the text

-- a line with its line feed, which is 10
abbrev pub ended : List ℕ → List ℕ
ended line = line ++ 10 ∷ []

-- the lines of a triangle, one after another
unfoldable pub facet_text : Unit → Tri → List ℕ
facet_text unit tri = flat_map ended (facet_lines unit tri)

-- the text of a list of triangles: one solid, with a facet for each of them
unfoldable pub part_text : Unit → List Tri → List ℕ
part_text unit tris = ended (codes "solid stock") ++ flat_map (facet_text unit) tris ++ ended (codes "endsolid stock")

-- under each snap, the text means exactly these triangles, of which no coordinate is rounded
abbrev pub ReadsBack : Unit → List Tri → List ℕ → Type 0
ReadsBack unit tris text = (snap : Snap) → part_of snap unit text ≡ Ok (record { tris = tris; rounded = 0 })
