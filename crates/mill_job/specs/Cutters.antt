-- What a document says of the cutter, and what is wrong with it.
use Rattle.std.specs.Prelude.{ℕ, codes, bytes_eq, Bool, true, false, not, ◌&&◌, if◌then◌else◌, ℤ, pos, ◌*ℤ◌, int_lt, List, [], ◌∷◌, Option, Some, None, is_some, option_and_then, unwrap_or}
use Rattle.mill_base.specs.declared.cutter.Cutter.{Cutter}
use Rattle.mill_base.specs.declared.cutter.Cutter.TheVariants as cutter
use Rattle.mill_base.specs.declared.limits.TheConstants.{MAX_RADIUS}
use Rattle.toml.specs.Data.{Members, get_member, as_integer, as_str}
use Rattle.mill_job.specs.Keys.{name_of}
use Rattle.mill_job.specs.Tables.{fault_if, is_from, must_be_if, number_at, number_fault, number_given, text_fault}
use Rattle.mill_job.specs.declared.cutter.Shape.{Shape}
use Rattle.mill_job.specs.declared.cutter.Shape.TheVariants as shape
use Rattle.mill_job.specs.declared.fault.JobFault.{JobFault}
use Rattle.mill_job.specs.declared.fault.JobFault.TheVariants.{Relation}
use Rattle.mill_job.specs.declared.key.Key.{Key}
use Rattle.mill_job.specs.declared.key.Key.TheVariants as key

-- the texts of the shapes
abbrev pub shape_texts : List (List ℕ)
shape_texts = codes "flat" ∷ codes "ball" ∷ codes "cone" ∷ []

-- the shape that a text names; any other text, or none, is a fault, and stands for a flat cutter here
abbrev pub shape_from : Option (List ℕ) → Shape
shape_from None = shape.Flat
shape_from (Some text) = if bytes_eq text (codes "cone") then shape.Cone else (if bytes_eq text (codes "ball") then shape.Ball else shape.Flat)

-- the shape that a document names, and what is wrong with its text
unfoldable pub shape_of : Members → Shape
shape_of ms = shape_from (option_and_then as_str (get_member (name_of key.Cutter) ms))

unfoldable pub shape_fault : Members → Option JobFault
shape_fault ms = text_fault key.Cutter shape_texts ms

-- the shape is a cone
abbrev pub is_cone : Shape → Bool
is_cone shape.Cone = true
is_cone _ = false

-- what is wrong with the rise or the run at a key, from 1 to 100, which only a cone must have
unfoldable pub slope_fault : Key → Members → Option JobFault
slope_fault key ms = must_be_if (is_cone (shape_of ms)) key as_integer (is_from (pos 1) (pos 100)) (get_member (name_of key) ms)

-- the number that is given, else 0
abbrev pub or_zero : Option ℤ → ℤ
or_zero z = unwrap_or z (pos 0)

-- what is wrong between a shape, a rise and a run, in order
abbrev pub slope_faults : Shape → Option ℤ → Option ℤ → List (Option JobFault)
slope_faults shape rise run =
    fault_if (is_some rise && not (is_cone shape)) (Relation key.Cutter key.Rise)
    ∷ fault_if (is_some run && not (is_cone shape)) (Relation key.Cutter key.Run)
    ∷ fault_if (int_lt (pos 16 *ℤ or_zero run) (or_zero rise)) (Relation key.Rise key.Run)
    ∷ []

-- the cutter of a shape, a radius, a rise and a run
abbrev pub cutter_with : Shape → ℤ → Option ℤ → Option ℤ → Cutter
cutter_with shape.Flat radius rise run = cutter.Flat radius
cutter_with shape.Ball radius rise run = cutter.Ball radius
cutter_with shape.Cone radius rise run = cutter.Cone radius (or_zero rise) (or_zero run)

-- ---- by a document's four keys

-- what is wrong with each of them, in the format's order
abbrev pub cutter_key_faults : Members → List (Option JobFault)
cutter_key_faults ms = shape_fault ms ∷ number_fault key.Radius (pos 1) MAX_RADIUS ms ∷ slope_fault key.Rise ms ∷ slope_fault key.Run ms ∷ []

-- what is wrong between them, in order
abbrev pub cutter_faults : Members → List (Option JobFault)
cutter_faults ms = slope_faults (shape_of ms) (number_given key.Rise ms) (number_given key.Run ms)

-- the cutter of a document with which nothing of this is wrong
abbrev pub cutter_of : Members → Cutter
cutter_of ms = cutter_with (shape_of ms) (number_at key.Radius ms) (number_given key.Rise ms) (number_given key.Run ms)
