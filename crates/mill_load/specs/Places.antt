-- What the words for a place and for a height say in a unit.
use Rattle.std.specs.Prelude.{◌≡◌, ℕ, ℤ, List, Result, Ok, Err}
use Rattle.mill_base.specs.declared.unit.Unit.{Unit}
use Rattle.mill_decimal.specs.Decimals.{read_as}
use Rattle.mill_decimal.specs.declared.fault.DecFault.{DecFault}
use Rattle.mill_decimal.specs.declared.snap.Snap.TheVariants.{Exact}
use Rattle.mill_job.specs.declared.fields.Place.{Place}
use Rattle.mill_load.specs.declared.place.Coordinate.{Coordinate}
use Rattle.mill_load.specs.declared.place.Coordinate.TheVariants.{X, Y, Z}
use Rattle.mill_load.specs.declared.place.WordFault.{WordFault}

-- ---- a place

-- in this unit the words for x and y read, none of them finer than it, as this place
pub record ReadsPlace (unit : Unit) (x y : List ℕ) (place : Place) : Type 0 where
  pub x_is : read_as Exact unit x ≡ Ok place.x
  pub y_is : read_as Exact unit y ≡ Ok place.y

-- in this unit this is the first of the two words that is refused, and its first fault
abbrev pub RefusesWord : Unit → List ℕ → List ℕ → Coordinate → DecFault → Type 0
RefusesWord unit x y X fault = read_as Exact unit x ≡ Err fault
RefusesWord unit x y Y fault = (units : ℤ) × (read_as Exact unit x ≡ Ok units) × (read_as Exact unit y ≡ Err fault)
RefusesWord unit x y Z fault = ⊥

-- ---- a height

-- in this unit the word for z reads as this height, and isn't finer than it
abbrev pub ReadsHeight : Unit → List ℕ → ℤ → Type 0
ReadsHeight unit z height = read_as Exact unit z ≡ Ok height

-- in this unit the word for z is refused, and this is its first fault
abbrev pub RefusesZ : Unit → List ℕ → Coordinate → DecFault → Type 0
RefusesZ unit z Z fault = read_as Exact unit z ≡ Err fault
RefusesZ unit z coordinate fault = ⊥

-- ---- what reading them comes to

-- what the words for x and y come to
abbrev pub PlaceFrom : Unit → List ℕ → List ℕ → Result Place WordFault → Type 0
PlaceFrom unit x y (Ok place) = ReadsPlace unit x y place
PlaceFrom unit x y (Err f) = RefusesWord unit x y f.coordinate f.fault

-- what the word for z comes to
abbrev pub HeightFrom : Unit → List ℕ → Result ℤ WordFault → Type 0
HeightFrom unit z (Ok height) = ReadsHeight unit z height
HeightFrom unit z (Err f) = RefusesZ unit z f.coordinate f.fault
