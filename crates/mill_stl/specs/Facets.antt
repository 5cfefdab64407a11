-- The words of a part text: what each has to be, and what it does.
use Rattle.std.specs.Prelude.{ℕ, ◌+◌, ℤ, pos, List, Option, Some, None, Result, Ok, Err, Bool, ◌==◌, nat_lt, nat_le, if◌then◌else◌, slice_index_or, set, codes}
use Rattle.mill_base.specs.declared.limits.TheConstants.{MAX_TRIANGLES}
use Rattle.std.specs.Str.{str_eq_ignore_ascii_case}
use Rattle.mill_base.specs.declared.points.Pt3.{Pt3}
use Rattle.mill_base.specs.declared.points.Tri.{Tri}
use Rattle.mill_base.specs.declared.unit.Unit.{Unit}
use Rattle.mill_decimal.specs.declared.snap.Snap.{Snap}
use Rattle.mill_decimal.specs.declared.fault.DecFault.{DecFault}
use Rattle.mill_decimal.specs.Decimals.{read_as, is_rounded}
use Rattle.mill_stl.specs.declared.fault.What.{What}
use Rattle.mill_stl.specs.declared.fault.What.TheVariants as what
use Rattle.mill_stl.specs.declared.fault.StlFault.{StlFault}
use Rattle.mill_stl.specs.declared.fault.StlFault.TheVariants.{Expected, Coord, TooManyTriangles}
use Rattle.mill_stl.specs.declared.state.Stage.{Stage}
use Rattle.mill_stl.specs.declared.state.Stage.TheVariants as stage
use Rattle.mill_stl.specs.declared.state.Progress.{Progress}

-- what a word has done: the progress behind it, and the triangle of the facet that has ended with it
pub record Step : Type 0 where
  pub progress : Progress
  pub tri : Option Tri

-- the word is the keyword, in any letter case
abbrev pub is_keyword : List ℕ → List ℕ → Bool
is_keyword word keyword = str_eq_ignore_ascii_case word keyword

-- the next word is judged at another stage
abbrev pub moved_to : Progress → Stage → Step
moved_to p next = record { progress = record p { stage = next }; tri = None }

-- the rest of the line is a name
abbrev pub with_name : Progress → ℕ → Stage → Step
with_name p line next = record { progress = record p { stage = next; name_line = line }; tri = None }

-- the word has to be the keyword, which leads to the next stage
abbrev pub after_keyword : Progress → ℕ → List ℕ → List ℕ → What → Stage → Result Step StlFault
after_keyword p line word keyword expected next =
    if is_keyword word keyword then Ok (moved_to p next) else Err (Expected line expected)

-- a solid begins, and its name
abbrev pub after_solid : Progress → ℕ → List ℕ → What → Result Step StlFault
after_solid p line word expected =
    if is_keyword word (codes "solid") then Ok (with_name p line stage.FacetOrEnd) else Err (Expected line expected)

-- a facet begins; the 200,001st is one too many
abbrev pub begun_facet : Progress → ℕ → Result Step StlFault
begun_facet p line = if nat_le MAX_TRIANGLES p.facets then Err (TooManyTriangles line) else Ok (moved_to p stage.Normal)

-- the solid has one more facet or ends
abbrev pub after_facet_or_end : Progress → ℕ → List ℕ → Result Step StlFault
after_facet_or_end p line word =
    if is_keyword word (codes "facet") then begun_facet p line else
    (if is_keyword word (codes "endsolid") then Ok (with_name p line stage.SolidOrEnd) else Err (Expected line what.FacetOrEnd))

-- what follows the n-th of a normal's three words, which may be any words
abbrev pub stage_after_ignored : ℕ → Stage
stage_after_ignored n = if nat_lt n 2 then stage.Ignored (n + 1) else stage.Outer

-- what follows the n-th of a facet's nine coordinates
abbrev pub stage_after_coord : ℕ → Stage
stage_after_coord n =
    if n == 2 then stage.Vertex 3 else
    (if n == 5 then stage.Vertex 6 else
    (if nat_lt n 8 then stage.Coord (n + 1) else stage.EndLoop))

-- one more than the count if the coordinate was rounded
abbrev pub rounded_after : ℕ → Bool → ℕ
rounded_after count rounded = if rounded then count + 1 else count

-- the n-th coordinate is z, rounded or not
abbrev pub with_coord : Progress → ℕ → ℤ → Bool → Step
with_coord p n z rounded =
    record { progress = record p { stage = stage_after_coord n; coords = set p.coords n z; rounded = rounded_after p.rounded rounded }; tri = None }

-- the n-th coordinate is what its word was read as, if that is a decimal
abbrev pub coord_or_fault : Progress → ℕ → ℕ → Bool → Result ℤ DecFault → Result Step StlFault
coord_or_fault p line n rounded (Ok z) = Ok (with_coord p n z rounded)
coord_or_fault p line n rounded (Err fault) = Err (Coord line fault)

-- a word in the n-th coordinate's place has to be a decimal
abbrev pub after_coord : Snap → Unit → Progress → ℕ → ℕ → List ℕ → Result Step StlFault
after_coord snap unit p line n word = coord_or_fault p line n (is_rounded unit word) (read_as snap unit word)

-- the corner whose coordinates begin with the n-th
abbrev pub corner : List ℤ → ℕ → Pt3
corner coords n = record { x = slice_index_or coords n (pos 0); y = slice_index_or coords (n + 1) (pos 0); z = slice_index_or coords (n + 2) (pos 0) }

-- the triangle of nine coordinates
abbrev pub tri_of : List ℤ → Tri
tri_of coords = record { a = corner coords 0; b = corner coords 3; c = corner coords 6 }

-- the facet that has ended is a triangle
abbrev pub ended_facet : Progress → Step
ended_facet p = record { progress = record p { stage = stage.FacetOrEnd; facets = p.facets + 1 }; tri = Some (tri_of p.coords) }

-- a facet ends
abbrev pub after_end_facet : Progress → ℕ → List ℕ → Result Step StlFault
after_end_facet p line word =
    if is_keyword word (codes "endfacet") then Ok (ended_facet p) else Err (Expected line what.EndFacet)

-- what a word does at a stage
abbrev pub at_stage : Snap → Unit → Stage → Progress → ℕ → List ℕ → Result Step StlFault
at_stage snap unit stage.Solid p line word = after_solid p line word what.Solid
at_stage snap unit stage.SolidOrEnd p line word = after_solid p line word what.SolidOrEnd
at_stage snap unit stage.FacetOrEnd p line word = after_facet_or_end p line word
at_stage snap unit stage.Normal p line word = after_keyword p line word (codes "normal") what.Normal (stage.Ignored 0)
at_stage snap unit (stage.Ignored n) p line word = Ok (moved_to p (stage_after_ignored n))
at_stage snap unit stage.Outer p line word = after_keyword p line word (codes "outer") what.Outer stage.Loop
at_stage snap unit stage.Loop p line word = after_keyword p line word (codes "loop") what.Loop (stage.Vertex 0)
at_stage snap unit (stage.Vertex n) p line word = after_keyword p line word (codes "vertex") what.Vertex (stage.Coord n)
at_stage snap unit (stage.Coord n) p line word = after_coord snap unit p line n word
at_stage snap unit stage.EndLoop p line word = after_keyword p line word (codes "endloop") what.EndLoop stage.EndFacet
at_stage snap unit stage.EndFacet p line word = after_end_facet p line word

-- what a word does: nothing on the line of a name, else what its stage says
unfoldable pub after_word : Snap → Unit → Progress → ℕ → List ℕ → Result Step StlFault
after_word snap unit p line word =
    if line == p.name_line then Ok (record { progress = p; tri = None }) else at_stage snap unit p.stage p line word
