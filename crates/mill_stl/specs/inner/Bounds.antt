-- What stays true from word to word while a part is read.
use Rattle.std.specs.Prelude.{◌≡◌, ℕ, ◌+◌, ◌*◌, ◌≤◌, ◌<◌, ℤ, List, [], length, drop, Option, Some, None, IfSome, Result, Ok, Err, false, slice_index}
use Rattle.std.specs.List.{All}
use Rattle.mill_base.specs.Numbers.{Within}
use Rattle.mill_base.specs.declared.limits.TheConstants.{MAX_TRIANGLES}
use Rattle.mill_base.specs.Units.{greatest_of}
use Rattle.mill_base.specs.Ranges.{TriInUnitRange}
use Rattle.mill_base.specs.declared.points.Tri.{Tri}
use Rattle.mill_base.specs.declared.unit.Unit.{Unit}
use Rattle.mill_decimal.specs.declared.snap.Snap.{Snap}
use Rattle.mill_stl.specs.declared.fault.StlFault.{StlFault}
use Rattle.mill_stl.specs.declared.state.Stage.{Stage}
use Rattle.mill_stl.specs.declared.state.Stage.TheVariants as stage
use Rattle.mill_stl.specs.declared.state.Progress.{Progress}
use Rattle.mill_stl.specs.declared.state.Cursor.{Cursor}
use Rattle.mill_stl.specs.Facets.{Step}
use Rattle.mill_stl.specs.Parts.{Reached, Scan, Part, is_space, reached_at, read_from}

-- how many coordinates of the facet the stage has behind it
abbrev pub coords_before : Stage → ℕ
coords_before (stage.Vertex n) = n
coords_before (stage.Coord n) = n
coords_before stage.EndLoop = 9
coords_before stage.EndFacet = 9
coords_before _ = 0

-- the stage's number is one of its few, and within a facet there is room for it
abbrev pub HasRoom : Stage → ℕ → Type 0
HasRoom stage.Solid facets = facets ≤ MAX_TRIANGLES
HasRoom stage.SolidOrEnd facets = facets ≤ MAX_TRIANGLES
HasRoom stage.FacetOrEnd facets = facets ≤ MAX_TRIANGLES
HasRoom (stage.Ignored n) facets = (facets < MAX_TRIANGLES) × (n ≤ 2)
HasRoom (stage.Vertex n) facets = (facets < MAX_TRIANGLES) × (n ≤ 6)
HasRoom (stage.Coord n) facets = (facets < MAX_TRIANGLES) × (n ≤ 8)
HasRoom _ facets = facets < MAX_TRIANGLES

-- and no more coordinates were rounded than there were
pub record FitsStage (s : Stage) (facets rounded : ℕ) : Type 0 where
  pub room : HasRoom s facets
  pub counted : rounded ≤ 9 * facets + coords_before s

-- the stage fits the counts
abbrev pub FitsProgress : Progress → Type 0
FitsProgress p = FitsStage p.stage p.facets p.rounded

-- the coordinates are in the unit's range
abbrev pub CoordsInRange : Unit → List ℤ → Type 0
CoordsInRange unit coords = All (λ z. Within (greatest_of unit) z) coords

-- the facets and one more, if a triangle has ended
abbrev pub count_after : ℕ → Option Tri → ℕ
count_after facets None = facets
count_after facets (Some tri) = facets + 1

-- a step keeps what fits and counts its triangle; from coordinates in range it has these and its triangle in range
pub record IsStep (unit : Unit) (p : Progress) (s : Step) : Type 0 where
  pub fits : FitsProgress s.progress
  pub count : s.progress.facets ≡ count_after p.facets s.tri
  pub coords_ok : CoordsInRange unit p.coords → CoordsInRange unit s.progress.coords
  pub tri_ok : CoordsInRange unit p.coords → IfSome s.tri (TriInUnitRange unit)

-- the progress fits, the triangles so far are as many as the facets, and all coordinates are in the unit's range
pub record IsSound (unit : Unit) (p : Progress) (tris : List Tri) : Type 0 where
  pub fits : FitsProgress p
  pub coords_ok : CoordsInRange unit p.coords
  pub count : length tris ≡ p.facets
  pub tris_ok : All (TriInUnitRange unit) tris

-- the progress and the triangle that a word has ended, as a step
abbrev pub stepped : Progress → Option Tri → Step
stepped p tri = record { progress = p; tri = tri }

-- this progress and this answer are what a word does
abbrev pub Does : Progress → Result (Option Tri) StlFault → Result Step StlFault → Type 0
Does p (Ok tri) meaning = meaning ≡ Ok (stepped p tri)
Does p (Err fault) meaning = meaning ≡ Err fault

-- before the next byte, with these bytes of a word behind
abbrev pub scan_at : Reached → ℕ → List ℕ → Scan
scan_at r line word = record { reached = r; line = line; word = word }

-- what the text means, read on from the cursor, where no word goes on
abbrev pub meaning_from : Snap → Unit → List ℕ → Cursor → Progress → List Tri → Result Part StlFault
meaning_from snap unit text c p tris = read_from snap unit (scan_at (reached_at p tris) c.line []) (drop c.from text)

-- the cursor is within the text, on a line that there can be, and no white space follows it
pub record IsBeforeWord (text : List ℕ) (c : Cursor) : Type 0 where
  pub within : c.from ≤ length text
  pub line_ok : c.line ≤ c.from + 1
  pub no_space : c.from < length text → is_space (slice_index text c.from) ≡ false
