-- The text of a list of triangles: its parts, its length, and that it reads back.
use Rattle.std.proofs.Common.{◌≡◌, ℕ, ◌+◌, ◌*◌, ◌≤◌, ◌<◌, List, [], ◌∷◌, ◌++◌, length, Result, Ok, true, None, arith, rules, refl, ap, sym, ◌∙◌, append_assoc, append-nil, length-append}
use Rattle.std.specs.Prelude.{ℤ, pos, codes, ◌==◌}
use Rattle.std.specs.List.{flat_map}
use Rattle.std.proofs.lemmas.Bool.Decides.{nat_tests}
use Rattle.std.proofs.lemmas.List.Elements.{Contains-append_right}
use Rattle.mill_base.specs.Points.{point_at, point_tri}
use Rattle.mill_base.specs.Ranges.{IsInUnitRange, TriInUnitRange, TrisInUnitRange}
use Rattle.mill_base.specs.declared.limits.TheConstants.{MAX_FILE_BYTES, MAX_TRIANGLES}
use Rattle.mill_base.specs.declared.points.Pt3.{Pt3}
use Rattle.mill_base.specs.declared.points.Tri.{Tri}
use Rattle.mill_base.specs.declared.unit.Unit.{Unit}
use Rattle.mill_decimal.specs.declared.snap.Snap.{Snap}
use Rattle.mill_decimal.proofs.Canonical.{length-canonical}
use Rattle.mill_stl.specs.declared.fault.StlFault.{StlFault}
use Rattle.mill_stl.specs.declared.state.Stage.TheVariants as stage
use Rattle.mill_stl.specs.declared.state.Progress.{Progress}
use Rattle.mill_stl.specs.Facets.{with_name}
use Rattle.mill_stl.specs.Parts.{Part, start, part_of}
use Rattle.mill_stl.specs.Written.{vertex_line, ended, facet_text, part_text, ReadsBack}
use Rattle.mill_stl.proofs.Steps.{meaning-end}
use Rattle.mill_stl.proofs.WrittenWords.{word_read, off_name, on_name}
use Rattle.mill_stl.proofs.WrittenFacets.{in_solid, coords_of, not_first, reading, facet_on}

-- the lines before and behind those of the triangles
abbrev pub front : List ℕ
front = ended (codes "solid stock")

abbrev pub back : List ℕ
back = ended (codes "endsolid stock")

pub part_text-parts : (unit : Unit) (tris : List Tri) → part_text unit tris ≡ (front ++ flat_map (facet_text unit) tris) ++ back
unfolding part_text
part_text-parts unit tris = refl

-- what is added for a triangle is its text
pub facet_added : (unit : Unit) (tri : Tri) (text : List ℕ)
    → ((((text ++ (ended (codes "facet normal 0 0 1") ++ ended (codes "outer loop"))) ++ ended (vertex_line unit tri.a)) ++ ended (vertex_line unit tri.b)) ++ ended (vertex_line unit tri.c))
    ++ (ended (codes "endloop") ++ ended (codes "endfacet"))
    ≡ text ++ facet_text unit tri
unfolding facet_text
facet_added unit tri text =
    regrouped text (ended (codes "facet normal 0 0 1") ++ ended (codes "outer loop")) (ended (vertex_line unit tri.a)) (ended (vertex_line unit tri.b)) (ended (vertex_line unit tri.c))
    (ended (codes "endloop") ++ ended (codes "endfacet"))
  where
    regrouped : (text a b c d e : List ℕ) → ((((text ++ a) ++ b) ++ c) ++ d) ++ e ≡ text ++ (a ++ (b ++ (c ++ (d ++ e))))
    regrouped text a b c d e = simp append_assoc

-- ---- its length

length-vertex : (unit : Unit) (p : Pt3) → IsInUnitRange unit p → length (vertex_line unit p) ≤ 33
unfolding vertex_line
length-vertex unit p fits =
    simp length-append (omega (arith, length-canonical unit p.x fits.x_ok, length-canonical unit p.y fits.y_ok, length-canonical unit p.z fits.z_ok))

length-facet : (unit : Unit) (tri : Tri) → TriInUnitRange unit tri → length (facet_text unit tri) ≤ 149
unfolding facet_text
length-facet unit tri fits =
    simp length-append (omega (arith, length-vertex unit tri.a fits.a_ok, length-vertex unit tri.b fits.b_ok, length-vertex unit tri.c fits.c_ok))

rest_fits : (unit : Unit) (tri : Tri) (tris : List Tri) → TrisInUnitRange unit (tri ∷ tris) → TrisInUnitRange unit tris
rest_fits unit tri tris fits = λ t member. fits t (Contains-append_right (tri ∷ []) tris t member)

length-facets : (unit : Unit) (tris : List Tri) → TrisInUnitRange unit tris → length (flat_map (facet_text unit) tris) ≤ 149 * length tris
length-facets unit [] fits = omega arith
length-facets unit (tri ∷ tris) fits =
    omega (arith, length-append (facet_text unit tri) (flat_map (facet_text unit) tris), length-facet unit tri (fits tri (search rules)), length-facets unit tris (rest_fits unit tri tris fits))

-- it is no longer than a file may be
pub length-part_text : (unit : Unit) (tris : List Tri) → TrisInUnitRange unit tris → length tris ≤ MAX_TRIANGLES → length (part_text unit tris) ≤ MAX_FILE_BYTES
unfolding part_text
length-part_text unit tris fits few = simp length-append (omega (arith, length-facets unit tris fits))

-- ---- its reading

same_line : (line : ℕ) → (line == line) ≡ true
same_line line = grind (arith, nat_tests)

-- the coordinates before the first facet
abbrev origin : Tri
origin = point_tri (point_at (pos 0) (pos 0) (pos 0))

module _ (snap : Snap) (unit : Unit) where
  -- behind the last facet the solid ends, and with it the text
  end_on : (coords : List ℤ) (facets : ℕ) (tris : List Tri) (line : ℕ) → 1 < line → reading snap unit stage.FacetOrEnd coords facets tris line back ≡ Ok (record { tris = tris; rounded = 0 })
  end_on coords facets tris line late =
      let p : Progress = in_solid stage.FacetOrEnd coords facets in
      let q : Progress = record p { stage = stage.SolidOrEnd; name_line = line } in
      word_read snap unit p tris line (codes "endsolid") 32 (codes "stock" ++ 10 ∷ []) (with_name p line stage.SolidOrEnd) (search rules) (omega arith) refl
      (off_name snap unit p line (codes "endsolid") (with_name p line stage.SolidOrEnd) (not_first line late) refl)
      ∙ word_read snap unit q tris line (codes "stock") 10 [] (record { progress = q; tri = None }) (search rules) (omega arith) refl
      (on_name snap unit q line (codes "stock") (same_line line))
      ∙ meaning-end snap unit [] (record { line = line + 1; from = 0 }) q tris (omega arith)

  -- the texts of triangles add these
  facets_on : (todo done : List Tri) (last : Tri) (facets line : ℕ) (rest : List ℕ) (total : Result Part StlFault)
      → TrisInUnitRange unit todo → facets + length todo ≤ MAX_TRIANGLES → 1 < line
      → ((end : Tri) (count after : ℕ) → 1 < after → reading snap unit stage.FacetOrEnd (coords_of end) count (done ++ todo) after rest ≡ total)
      → reading snap unit stage.FacetOrEnd (coords_of last) facets done line (flat_map (facet_text unit) todo ++ rest) ≡ total
  facets_on [] done last facets line rest total fits few late goes =
      ap (λ (tris : List Tri). reading snap unit stage.FacetOrEnd (coords_of last) facets tris line rest) (sym (append-nil done)) ∙ goes last facets line late
  facets_on (tri ∷ todo) done last facets line rest total fits few late goes =
      ap (λ (text : List ℕ). reading snap unit stage.FacetOrEnd (coords_of last) facets done line text) (append_assoc (facet_text unit tri) (flat_map (facet_text unit) todo) rest)
      ∙ facet_on snap unit tri last facets done line (flat_map (facet_text unit) todo ++ rest) (fits tri (search rules)) (omega arith) late
      ∙ facets_on todo (done ++ tri ∷ []) tri (facets + 1) (line + 7) rest total (rest_fits unit tri todo fits) (omega arith) (omega arith)
      (λ end count after late.
      ap (λ (tris : List Tri). reading snap unit stage.FacetOrEnd (coords_of end) count tris after rest) (append_assoc done (tri ∷ []) todo) ∙ goes end count after late)

  -- the first line begins the solid
  front_on : (rest : List ℕ) → part_of snap unit (codes "solid stock" ++ 10 ∷ rest) ≡ reading snap unit stage.FacetOrEnd (coords_of origin) 0 [] 2 rest
  unfolding part_of
  front_on rest =
      let p : Progress = in_solid stage.FacetOrEnd (coords_of origin) 0 in
      word_read snap unit start [] 1 (codes "solid") 32 (codes "stock" ++ 10 ∷ rest) (with_name start 1 stage.FacetOrEnd) (search rules) (omega arith) refl
      (off_name snap unit start 1 (codes "solid") (with_name start 1 stage.FacetOrEnd) refl refl)
      ∙ word_read snap unit p [] 1 (codes "stock") 10 rest (record { progress = p; tri = None }) (search rules) (omega arith) refl
      (on_name snap unit p 1 (codes "stock") refl)

-- the text of triangles reads back
pub reads_back : (unit : Unit) (tris : List Tri) → TrisInUnitRange unit tris → length tris ≤ MAX_TRIANGLES → ReadsBack unit tris (part_text unit tris)
unfolding part_text
reads_back unit tris fits few = λ snap.
    front_on snap unit (flat_map (facet_text unit) tris ++ back)
    ∙ facets_on snap unit tris [] origin 0 2 back (Ok (record { tris = tris; rounded = 0 })) fits (omega arith) (omega arith)
    (λ end count after late. end_on snap unit (coords_of end) count tris after late)
