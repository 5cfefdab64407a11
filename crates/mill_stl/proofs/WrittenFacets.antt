-- The lines of a triangle as they are written, read back in the solid that they stand in.
use Rattle.std.proofs.Common.{◌≡◌, ℕ, ◌+◌, ◌<◌, List, [], ◌∷◌, ◌++◌, length, set, Result, Ok, true, false, arith, rules, refl, ap, subst, ◌∙◌, append_assoc}
use Rattle.std.specs.Prelude.{ℤ, codes, ◌==◌, nat_le}
use Rattle.std.proofs.lemmas.Bool.Decides.{nat_tests}
use Rattle.mill_base.specs.Numbers.{Within}
use Rattle.mill_base.specs.Units.{greatest_of}
use Rattle.mill_base.specs.Ranges.{IsInUnitRange, TriInUnitRange}
use Rattle.mill_base.specs.declared.limits.TheConstants.{MAX_TRIANGLES}
use Rattle.mill_base.specs.declared.points.Pt3.{Pt3}
use Rattle.mill_base.specs.declared.points.Tri.{Tri}
use Rattle.mill_base.specs.declared.unit.Unit.{Unit}
use Rattle.mill_decimal.specs.declared.snap.Snap.{Snap}
use Rattle.mill_decimal.specs.Decimals.{canonical}
use Rattle.mill_decimal.proofs.RoundTrip.{read_as-canonical}
use Rattle.mill_stl.specs.declared.fault.StlFault.{StlFault}
use Rattle.mill_stl.specs.declared.state.Stage.{Stage}
use Rattle.mill_stl.specs.declared.state.Stage.TheVariants as stage
use Rattle.mill_stl.specs.declared.state.Progress.{Progress}
use Rattle.mill_stl.specs.Facets.{at_stage, moved_to, with_coord, stage_after_coord, ended_facet}
use Rattle.mill_stl.specs.Parts.{Part, is_space, next_line, reached_at, read_from}
use Rattle.mill_stl.specs.Written.{vertex_line, ended, facet_text}
use Rattle.mill_stl.specs.inner.Bounds.{scan_at}
use Rattle.mill_stl.proofs.Numerals.{NoSpace, NoSpace-canonical, some_canonical, is_rounded-canonical}
use Rattle.mill_stl.proofs.WrittenWords.{word_read, off_name}

-- ---- the solid

-- in a solid whose name is on line 1, with no coordinate rounded
abbrev pub in_solid : Stage → List ℤ → ℕ → Progress
in_solid at coords facets = record { stage = at; name_line = 1; coords = coords; facets = facets; rounded = 0 }

-- the coordinates of three corners, and of a triangle
abbrev corner_coords : Pt3 → Pt3 → Pt3 → List ℤ
corner_coords p q r = p.x ∷ p.y ∷ p.z ∷ q.x ∷ q.y ∷ q.z ∷ r.x ∷ r.y ∷ r.z ∷ []

abbrev pub coords_of : Tri → List ℤ
coords_of tri = corner_coords tri.a tri.b tri.c

pub not_first : (line : ℕ) → 1 < line → (line == 1) ≡ false
not_first line late = grind (arith, nat_tests)

has_room : (facets : ℕ) → facets < MAX_TRIANGLES → nat_le MAX_TRIANGLES facets ≡ false
has_room facets few = grind (arith, nat_tests)

-- ---- the text of a corner and of a triangle, and what stands behind it

abbrev vertex_before : Unit → Pt3 → List ℕ → List ℕ
vertex_before unit p rest = codes "vertex" ++ 32 ∷ (canonical unit p.x ++ 32 ∷ (canonical unit p.y ++ 32 ∷ (canonical unit p.z ++ 10 ∷ rest)))

vertex-parts : (unit : Unit) (p : Pt3) (rest : List ℕ) → ended (vertex_line unit p) ++ rest ≡ vertex_before unit p rest
unfolding vertex_line
vertex-parts unit p rest = simp append_assoc

abbrev facet_before : Unit → Tri → List ℕ → List ℕ
facet_before unit tri rest =
    codes "facet normal 0 0 1" ++ 10 ∷ (codes "outer loop" ++ 10 ∷ vertex_before unit tri.a (vertex_before unit tri.b (vertex_before unit tri.c (codes "endloop" ++ 10 ∷ (codes "endfacet" ++ 10 ∷ rest)))))

vertex_on : (unit : Unit) (p : Pt3) (more rest : List ℕ) → (ended (vertex_line unit p) ++ more) ++ rest ≡ vertex_before unit p (more ++ rest)
vertex_on unit p more rest = append_assoc (ended (vertex_line unit p)) more rest ∙ vertex-parts unit p (more ++ rest)

facet-parts : (unit : Unit) (tri : Tri) (rest : List ℕ) → facet_text unit tri ++ rest ≡ facet_before unit tri rest
unfolding facet_text
facet-parts unit tri rest =
    let ends : List ℕ = ended (codes "endloop") ++ ended (codes "endfacet") in
    let third : List ℕ = ended (vertex_line unit tri.c) ++ ends in
    let second : List ℕ = ended (vertex_line unit tri.b) ++ third in
    ap (λ (text : List ℕ). codes "facet normal 0 0 1" ++ 10 ∷ (codes "outer loop" ++ 10 ∷ text)) (
    vertex_on unit tri.a second rest
    ∙ ap (vertex_before unit tri.a) (vertex_on unit tri.b third rest ∙ ap (vertex_before unit tri.b) (vertex_on unit tri.c ends rest))
    )

module _ (snap : Snap) (unit : Unit) where
  -- what the rest of a text means from a stage in the solid on, with these triangles behind it
  abbrev pub reading : Stage → List ℤ → ℕ → List Tri → ℕ → List ℕ → Result Part StlFault
  reading at coords facets tris line text = read_from snap unit (scan_at (reached_at (in_solid at coords facets) tris) line []) text

  -- ---- words

  -- a keyword, or a word of the normal, leads on to the next stage
  word_on : (at next : Stage) (coords : List ℤ) (facets : ℕ) (tris : List Tri) (line : ℕ) (word : List ℕ) (b : ℕ) (rest : List ℕ)
      → NoSpace word → 0 < length word → is_space b ≡ true → 1 < line
      → at_stage snap unit at (in_solid at coords facets) line word ≡ Ok (moved_to (in_solid at coords facets) next)
      → reading at coords facets tris line (word ++ b ∷ rest) ≡ reading next coords facets tris (next_line line b) rest
  word_on at next coords facets tris line word b rest none some space late does =
      word_read snap unit (in_solid at coords facets) tris line word b rest (moved_to (in_solid at coords facets) next) none some space
      (off_name snap unit (in_solid at coords facets) line word (moved_to (in_solid at coords facets) next) (not_first line late) does)

  -- the n-th coordinate is read as it was
  coord_on : (n : ℕ) (next : Stage) (coords : List ℤ) (facets : ℕ) (tris : List Tri) (line : ℕ) (z : ℤ) (b : ℕ) (rest : List ℕ)
      → Within (greatest_of unit) z → is_space b ≡ true → 1 < line → stage_after_coord n ≡ next
      → reading (stage.Coord n) coords facets tris line (canonical unit z ++ b ∷ rest) ≡ reading next (set coords n z) facets tris (next_line line b) rest
  coord_on n next coords facets tris line z b rest fits space late after =
      let p : Progress = in_solid (stage.Coord n) coords facets in
      subst (λ (s : Stage). reading (stage.Coord n) coords facets tris line (canonical unit z ++ b ∷ rest) ≡ reading s (set coords n z) facets tris (next_line line b) rest) after
      (word_read snap unit p tris line (canonical unit z) b rest (with_coord p n z false) (NoSpace-canonical unit z fits) (some_canonical unit z) space
      (off_name snap unit p line (canonical unit z) (with_coord p n z false) (not_first line late) (rw (is_rounded-canonical unit z fits, read_as-canonical snap unit z fits) refl)))

  -- ---- lines

  facet_line : (coords : List ℤ) (facets : ℕ) (tris : List Tri) (line : ℕ) (rest : List ℕ) → facets < MAX_TRIANGLES → 1 < line
      → reading stage.FacetOrEnd coords facets tris line (codes "facet normal 0 0 1" ++ 10 ∷ rest) ≡ reading stage.Outer coords facets tris (line + 1) rest
  facet_line coords facets tris line rest few late =
      word_on stage.FacetOrEnd stage.Normal coords facets tris line (codes "facet") 32 (codes "normal 0 0 1" ++ 10 ∷ rest) (search rules) (omega arith) refl late (rw (has_room facets few) refl)
      ∙ word_on stage.Normal (stage.Ignored 0) coords facets tris line (codes "normal") 32 (codes "0 0 1" ++ 10 ∷ rest) (search rules) (omega arith) refl late refl
      ∙ word_on (stage.Ignored 0) (stage.Ignored 1) coords facets tris line (codes "0") 32 (codes "0 1" ++ 10 ∷ rest) (search rules) (omega arith) refl late refl
      ∙ word_on (stage.Ignored 1) (stage.Ignored 2) coords facets tris line (codes "0") 32 (codes "1" ++ 10 ∷ rest) (search rules) (omega arith) refl late refl
      ∙ word_on (stage.Ignored 2) stage.Outer coords facets tris line (codes "1") 10 rest (search rules) (omega arith) refl late refl

  loop_line : (coords : List ℤ) (facets : ℕ) (tris : List Tri) (line : ℕ) (rest : List ℕ) → 1 < line
      → reading stage.Outer coords facets tris line (codes "outer loop" ++ 10 ∷ rest) ≡ reading (stage.Vertex 0) coords facets tris (line + 1) rest
  loop_line coords facets tris line rest late =
      word_on stage.Outer stage.Loop coords facets tris line (codes "outer") 32 (codes "loop" ++ 10 ∷ rest) (search rules) (omega arith) refl late refl
      ∙ word_on stage.Loop (stage.Vertex 0) coords facets tris line (codes "loop") 10 rest (search rules) (omega arith) refl late refl

  -- the line of the corner whose coordinates begin with the n-th
  corner_line : (n : ℕ) (next : Stage) (coords : List ℤ) (facets : ℕ) (tris : List Tri) (line : ℕ) (p : Pt3) (rest : List ℕ) → IsInUnitRange unit p → 1 < line
      → stage_after_coord n ≡ stage.Coord (n + 1) → stage_after_coord (n + 1) ≡ stage.Coord (n + 2) → stage_after_coord (n + 2) ≡ next
      → reading (stage.Vertex n) coords facets tris line (vertex_before unit p rest) ≡ reading next (set (set (set coords n p.x) (n + 1) p.y) (n + 2) p.z) facets tris (line + 1) rest
  corner_line n next coords facets tris line p rest fits late first second third =
      word_on (stage.Vertex n) (stage.Coord n) coords facets tris line (codes "vertex") 32 (canonical unit p.x ++ 32 ∷ (canonical unit p.y ++ 32 ∷ (canonical unit p.z ++ 10 ∷ rest)))
      (search rules) (omega arith) refl late refl
      ∙ coord_on n (stage.Coord (n + 1)) coords facets tris line p.x 32 (canonical unit p.y ++ 32 ∷ (canonical unit p.z ++ 10 ∷ rest)) fits.x_ok refl late first
      ∙ coord_on (n + 1) (stage.Coord (n + 2)) (set coords n p.x) facets tris line p.y 32 (canonical unit p.z ++ 10 ∷ rest) fits.y_ok refl late second
      ∙ coord_on (n + 2) next (set (set coords n p.x) (n + 1) p.y) facets tris line p.z 10 rest fits.z_ok refl late third

  -- the triangle of the coordinates is one more
  end_line : (tri : Tri) (facets : ℕ) (tris : List Tri) (line : ℕ) (rest : List ℕ) → 1 < line
      → reading stage.EndFacet (coords_of tri) facets tris line (codes "endfacet" ++ 10 ∷ rest) ≡ reading stage.FacetOrEnd (coords_of tri) (facets + 1) (tris ++ tri ∷ []) (line + 1) rest
  end_line tri facets tris line rest late =
      let p : Progress = in_solid stage.EndFacet (coords_of tri) facets in
      word_read snap unit p tris line (codes "endfacet") 10 rest (ended_facet p) (search rules) (omega arith) refl
      (off_name snap unit p line (codes "endfacet") (ended_facet p) (not_first line late) refl)

  -- ---- the facet

  lines_on : (tri last : Tri) (facets : ℕ) (tris : List Tri) (line : ℕ) (rest : List ℕ) → TriInUnitRange unit tri → facets < MAX_TRIANGLES → 1 < line
      → reading stage.FacetOrEnd (coords_of last) facets tris line (facet_before unit tri rest)
      ≡ reading stage.FacetOrEnd (coords_of tri) (facets + 1) (tris ++ tri ∷ []) (line + 1 + 1 + 1 + 1 + 1 + 1 + 1) rest
  lines_on tri last facets tris line rest fits few late =
      let third : List ℕ = vertex_before unit tri.c (codes "endloop" ++ 10 ∷ (codes "endfacet" ++ 10 ∷ rest)) in
      let corners : List ℕ = vertex_before unit tri.a (vertex_before unit tri.b third) in
      facet_line (coords_of last) facets tris line (codes "outer loop" ++ 10 ∷ corners) few late
      ∙ loop_line (coords_of last) facets tris (line + 1) corners (omega arith)
      ∙ corner_line 0 (stage.Vertex 3) (coords_of last) facets tris (line + 1 + 1) tri.a (vertex_before unit tri.b third) fits.a_ok (omega arith) refl refl refl
      ∙ corner_line 3 (stage.Vertex 6) (corner_coords tri.a last.b last.c) facets tris (line + 1 + 1 + 1) tri.b third fits.b_ok (omega arith) refl refl refl
      ∙ corner_line 6 stage.EndLoop (corner_coords tri.a tri.b last.c) facets tris (line + 1 + 1 + 1 + 1) tri.c (codes "endloop" ++ 10 ∷ (codes "endfacet" ++ 10 ∷ rest)) fits.c_ok (omega arith) refl refl refl
      ∙ word_on stage.EndLoop stage.EndFacet (coords_of tri) facets tris (line + 1 + 1 + 1 + 1 + 1) (codes "endloop") 10 (codes "endfacet" ++ 10 ∷ rest) (search rules) (omega arith) refl (omega arith) refl
      ∙ end_line tri facets tris (line + 1 + 1 + 1 + 1 + 1 + 1) rest (omega arith)

  -- the text of a triangle adds it, whatever the last coordinates were
  pub facet_on : (tri last : Tri) (facets : ℕ) (tris : List Tri) (line : ℕ) (rest : List ℕ) → TriInUnitRange unit tri → facets < MAX_TRIANGLES → 1 < line
      → reading stage.FacetOrEnd (coords_of last) facets tris line (facet_text unit tri ++ rest)
      ≡ reading stage.FacetOrEnd (coords_of tri) (facets + 1) (tris ++ tri ∷ []) (line + 7) rest
  facet_on tri last facets tris line rest fits few late =
      let seven : line + 1 + 1 + 1 + 1 + 1 + 1 + 1 ≡ line + 7 = omega arith in
      ap (λ (text : List ℕ). reading stage.FacetOrEnd (coords_of last) facets tris line text) (facet-parts unit tri rest)
      ∙ lines_on tri last facets tris line rest fits few late
      ∙ ap (λ (after : ℕ). reading stage.FacetOrEnd (coords_of tri) (facets + 1) (tris ++ tri ∷ []) after rest) seven
