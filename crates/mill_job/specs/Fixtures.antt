-- What a document says of the fixtures that the machine has to keep out of, and what is wrong with it.
use Rattle.std.specs.Prelude.{Bool, false, ◌&&◌, ℤ, ◌+ℤ◌, ◌≤ℤ◌, ◌≤◌, int_le, nat_le, List, [], ◌∷◌, length, map, All, Option, Some, None, option_and_then, option_map, unwrap_or}
use Rattle.std.specs.List.{list_all}
use Rattle.mill_base.specs.Numbers.{Within}
use Rattle.mill_base.specs.Units.{greatest_of}
use Rattle.mill_base.specs.declared.unit.Unit.{Unit}
use Rattle.toml.specs.Data.{Data, Members, Items, no_items, item, get_member, as_array}
use Rattle.mill_job.specs.Keys.{name_of}
use Rattle.mill_job.specs.Tables.{IsArea, area_of, as_integers, entry, is_area, is_coordinate, may_be}
use Rattle.mill_job.specs.declared.fault.JobFault.{JobFault}
use Rattle.mill_job.specs.declared.fixtures.Fixture.{Fixture}
use Rattle.mill_job.specs.declared.key.Key.TheVariants as key
use Rattle.mill_job.specs.declared.limits.TheConstants.{MAX_FIXTURES}

-- ---- as they stand in a document

-- the whole numbers of each member of an array, none where a member is no array of whole numbers
abbrev pub and_more : List ℤ → Option (List (List ℤ)) → Option (List (List ℤ))
and_more zs rest = option_map (λ rows. zs ∷ rows) rest

abbrev pub with_rest : Option (List ℤ) → Option (List (List ℤ)) → Option (List (List ℤ))
with_rest None rest = None
with_rest (Some zs) rest = and_more zs rest

abbrev pub rows : Items → Option (List (List ℤ))
rows no_items = Some []
rows (item d ds) = with_rest (as_integers d) (rows ds)

-- the same of a value, none where it isn't an array
abbrev pub as_rows : Data → Option (List (List ℤ))
as_rows d = option_and_then rows (as_array d)

-- x0, y0, x1, y1 as those of an area, and a height
abbrev pub is_fixture : Unit → List ℤ → Bool
is_fixture unit (x0 ∷ y0 ∷ x1 ∷ y1 ∷ z ∷ []) = is_area unit (x0 ∷ y0 ∷ x1 ∷ y1 ∷ []) && is_coordinate unit z
is_fixture unit _ = false

-- at most 64 of them
abbrev pub are_fixtures : Unit → List (List ℤ) → Bool
are_fixtures unit zss = nat_le (length zss) MAX_FIXTURES && list_all (is_fixture unit) zss

-- what is wrong with the fixtures of a document, which need not have any: a member of another kind comes first, wherever it stands
unfoldable pub fixtures_fault : Unit → Members → Option JobFault
fixtures_fault unit ms = may_be key.KeepOut as_rows (are_fixtures unit) (get_member (name_of key.KeepOut) ms)

-- the fixture that an array's numbers are
abbrev pub fixture_of : Option (List ℤ) → Fixture
fixture_of zs = record { area = area_of zs; height = entry zs 4 }

-- those that arrays of numbers are, none where there are none
abbrev pub fixtures_of : Option (List (List ℤ)) → List Fixture
fixtures_of zss = map (λ zs. fixture_of (Some zs)) (unwrap_or zss [])

-- the fixtures of a document with which nothing is wrong
unfoldable pub fixtures_at : Members → List Fixture
fixtures_at ms = fixtures_of (option_and_then as_rows (get_member (name_of key.KeepOut) ms))

-- ---- as they stand on the machine

-- its corners are coordinates of the unit, in their order, and so is its height
pub record IsFixture (unit : Unit) (fixture : Fixture) : Type 0 where
  pub area_ok : IsArea unit fixture.area
  pub height_ok : Within (greatest_of unit) fixture.height

-- there are at most 64. A job's type names them, so they unfold only where a proof says so
unfoldable pub AreFixtures : Unit → List Fixture → Type 0
AreFixtures unit fixtures = (length fixtures ≤ MAX_FIXTURES) × All (IsFixture unit) fixtures

-- what reaches this far under its tip passes over the fixture with its tip at a height
abbrev pub is_under : ℤ → ℤ → Fixture → Bool
is_under clear low fixture = int_le (fixture.height +ℤ low) clear

pub record IsUnder (clear low : ℤ) (fixture : Fixture) : Type 0 where
  pub under : (fixture.height +ℤ low) ≤ℤ clear
