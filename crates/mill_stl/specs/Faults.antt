-- How a fault is told.
use Rattle.std.specs.Prelude.{ℕ, List, codes}
use Rattle.mill_stl.specs.declared.fault.What.{What}
use Rattle.mill_stl.specs.declared.fault.What.TheVariants.{Solid, SolidOrEnd, FacetOrEnd, Normal, Outer, Loop, Vertex, EndLoop, EndFacet}

-- what was expected, as a message names it
abbrev pub name_of_expected : What → List ℕ
name_of_expected Solid = codes "`solid`"
name_of_expected SolidOrEnd = codes "`solid` or the end"
name_of_expected FacetOrEnd = codes "`facet` or `endsolid`"
name_of_expected Normal = codes "`normal`"
name_of_expected Outer = codes "`outer`"
name_of_expected Loop = codes "`loop`"
name_of_expected Vertex = codes "`vertex`"
name_of_expected EndLoop = codes "`endloop`"
name_of_expected EndFacet = codes "`endfacet`"
