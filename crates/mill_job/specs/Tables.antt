-- What a document gives at a key, and what is wrong with it.
use Rattle.std.specs.Prelude.{ℕ, Bool, true, false, ◌&&◌, if◌then◌else◌, ℤ, pos, neg_ℤ, ◌≤ℤ◌, int_le, int_lt, nat_le, List, [], ◌∷◌, length, Option, Some, None, option_and_then, option_map, unwrap_or, slice_index_or, Result, Ok, Err}
use Rattle.mill_base.specs.Numbers.{Within}
use Rattle.mill_base.specs.Units.{greatest_of}
use Rattle.mill_base.specs.declared.points.Box2.{Box2}
use Rattle.mill_base.specs.declared.unit.Unit.{Unit}
use Rattle.toml.specs.Data.{Data, Members, Items, no_items, item, get_member, as_integer, as_str, as_array}
use Rattle.mill_job.specs.Keys.{name_of, is_one_of}
use Rattle.mill_job.specs.declared.key.Key.{Key}
use Rattle.mill_job.specs.declared.fields.Place.{Place}
use Rattle.mill_job.specs.declared.limits.TheConstants.{MAX_LEVELS}
use Rattle.mill_job.specs.declared.fault.JobFault.{JobFault}
use Rattle.mill_job.specs.declared.fault.JobFault.TheVariants.{Missing, WrongKind, Range}

-- the whole numbers of an array, none where it has a member of another kind
abbrev pub and_more : ℤ → Option (List ℤ) → Option (List ℤ)
and_more z rest = option_map (λ zs. z ∷ zs) rest

abbrev pub with_rest : Option ℤ → Option (List ℤ) → Option (List ℤ)
with_rest None rest = None
with_rest (Some z) rest = and_more z rest

abbrev pub integers : Items → Option (List ℤ)
integers no_items = Some []
integers (item d ds) = with_rest (as_integer d) (integers ds)

-- the same of a value, none where it isn't an array
abbrev pub as_integers : Data → Option (List ℤ)
as_integers d = option_and_then integers (as_array d)

-- this fault if a condition holds
abbrev pub fault_if : Bool → JobFault → Option JobFault
fault_if holds f = if holds then Some f else None

-- what is wrong with the value that a reader gives at a key: its kind, or its range
abbrev pub kind_fault : {V : Type 0} → Key → (V → Bool) → Option V → Option JobFault
kind_fault key test None = Some (WrongKind key)
kind_fault key test (Some v) = if test v then None else Some (Range key)

-- the same of a key that must be there
abbrev pub must_be : {V : Type 0} → Key → (Data → Option V) → (V → Bool) → Option Data → Option JobFault
must_be key read test None = Some (Missing key)
must_be key read test (Some d) = kind_fault key test (read d)

-- the same of a key that may be left out
abbrev pub may_be : {V : Type 0} → Key → (Data → Option V) → (V → Bool) → Option Data → Option JobFault
may_be key read test None = None
may_be key read test (Some d) = kind_fault key test (read d)

-- the same of a key that must be there if a condition holds
abbrev pub must_be_if : {V : Type 0} → Bool → Key → (Data → Option V) → (V → Bool) → Option Data → Option JobFault
must_be_if holds key read test None = fault_if holds (Missing key)
must_be_if holds key read test (Some d) = kind_fault key test (read d)

-- z is from lo to hi
abbrev pub is_from : ℤ → ℤ → ℤ → Bool
is_from lo hi z = int_le lo z && int_le z hi

-- the magnitude is at most the unit's greatest
unfoldable pub is_coordinate : Unit → ℤ → Bool
is_coordinate unit z = is_from (neg_ℤ (pos (greatest_of unit))) (pos (greatest_of unit)) z

abbrev pub all_coordinates : Unit → List ℤ → Bool
all_coordinates unit [] = true
all_coordinates unit (z ∷ zs) = is_coordinate unit z && all_coordinates unit zs

-- x0, y0, x1, y1 with x0 at most x1 and y0 at most y1
abbrev pub is_area : Unit → List ℤ → Bool
is_area unit (x0 ∷ y0 ∷ x1 ∷ y1 ∷ []) = all_coordinates unit (x0 ∷ y0 ∷ x1 ∷ y1 ∷ []) && (int_le x0 x1 && int_le y0 y1)
is_area unit _ = false

-- x, y
abbrev pub is_place : Unit → List ℤ → Bool
is_place unit (x ∷ y ∷ []) = all_coordinates unit (x ∷ y ∷ [])
is_place unit _ = false

-- each number is less than the one before it, and the first less than a bound
abbrev pub falls_from : ℤ → List ℤ → Bool
falls_from bound [] = true
falls_from bound (z ∷ zs) = int_lt z bound && falls_from z zs

-- each number is less than the one before it
abbrev pub is_falling : List ℤ → Bool
is_falling [] = true
is_falling (z ∷ zs) = falls_from z zs

-- at most 64 coordinates, each less than the one before it
abbrev pub are_levels : Unit → List ℤ → Bool
are_levels unit zs = nat_le (length zs) MAX_LEVELS && (all_coordinates unit zs && is_falling zs)

-- what is wrong with the text at a key, which must be one of these
unfoldable pub text_fault : Key → List (List ℕ) → Members → Option JobFault
text_fault key texts ms = must_be key as_str (is_one_of texts) (get_member (name_of key) ms)

-- the same of a text that may be left out
unfoldable pub text_fault_if_there : Key → List (List ℕ) → Members → Option JobFault
text_fault_if_there key texts ms = may_be key as_str (is_one_of texts) (get_member (name_of key) ms)

-- what is wrong with the whole number at a key, which must be from lo to hi
unfoldable pub number_fault : Key → ℤ → ℤ → Members → Option JobFault
number_fault key lo hi ms = must_be key as_integer (is_from lo hi) (get_member (name_of key) ms)

-- the same of a whole number that may be left out
unfoldable pub number_fault_if_there : Key → ℤ → ℤ → Members → Option JobFault
number_fault_if_there key lo hi ms = may_be key as_integer (is_from lo hi) (get_member (name_of key) ms)

-- what is wrong with the coordinate at a key
abbrev pub coordinate_fault : Unit → Key → Members → Option JobFault
coordinate_fault unit key ms = number_fault key (neg_ℤ (pos (greatest_of unit))) (pos (greatest_of unit)) ms

-- what is wrong with the array at a key, whose whole numbers must pass a test
unfoldable pub array_fault : Key → (List ℤ → Bool) → Members → Option JobFault
array_fault key test ms = must_be key as_integers test (get_member (name_of key) ms)

-- the same of an array that may be left out
unfoldable pub array_fault_if_there : Key → (List ℤ → Bool) → Members → Option JobFault
array_fault_if_there key test ms = may_be key as_integers test (get_member (name_of key) ms)

-- the whole number at a key, if there is one
unfoldable pub number_given : Key → Members → Option ℤ
number_given key ms = option_and_then as_integer (get_member (name_of key) ms)

-- the same, 0 where there is none
unfoldable pub number_at : Key → Members → ℤ
number_at key ms = unwrap_or (number_given key ms) (pos 0)

-- the same, another number where there is none
unfoldable pub number_or : Key → ℤ → Members → ℤ
number_or key other ms = unwrap_or (number_given key ms) other

-- the whole numbers of the array at a key
unfoldable pub numbers_at : Key → Members → Option (List ℤ)
numbers_at key ms = option_and_then as_integers (get_member (name_of key) ms)

-- number i of an array, 0 where there is none
abbrev pub entry : Option (List ℤ) → ℕ → ℤ
entry zs i = slice_index_or (unwrap_or zs []) i (pos 0)

-- the area, and the place, that an array's numbers are
abbrev pub area_of : Option (List ℤ) → Box2
area_of zs = record { x0 = entry zs 0; y0 = entry zs 1; x1 = entry zs 2; y1 = entry zs 3 }

abbrev pub place_of : Option (List ℤ) → Place
place_of zs = record { x = entry zs 0; y = entry zs 1 }

-- the levels that an array's numbers are, none where there is no array
abbrev pub levels_of : Option (List ℤ) → List ℤ
levels_of zs = unwrap_or zs []

-- the corners of an area are coordinates of the unit, in their order
pub record IsArea (unit : Unit) (area : Box2) : Type 0 where
  pub x0_ok : Within (greatest_of unit) area.x0
  pub y0_ok : Within (greatest_of unit) area.y0
  pub x1_ok : Within (greatest_of unit) area.x1
  pub y1_ok : Within (greatest_of unit) area.y1
  pub x_order : area.x0 ≤ℤ area.x1
  pub y_order : area.y0 ≤ℤ area.y1

-- both coordinates of a place are in the unit's range
pub record IsPlace (unit : Unit) (place : Place) : Type 0 where
  pub x_ok : Within (greatest_of unit) place.x
  pub y_ok : Within (greatest_of unit) place.y

-- what is wrong with an array of another length: its kind where a member is no whole number, else its range
abbrev pub misfit_of : Key → Option (List ℤ) → JobFault
misfit_of key None = WrongKind key
misfit_of key (Some zs) = Range key

-- the first fault of a list
abbrev pub first : List (Option JobFault) → Option JobFault
first [] = None
first (None ∷ fs) = first fs
first (Some f ∷ fs) = Some f

-- the value, or what is wrong with it
abbrev pub checked : {V : Type 0} → Option JobFault → V → Result V JobFault
checked None v = Ok v
checked (Some f) v = Err f
