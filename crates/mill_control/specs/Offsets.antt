-- Under which length and which zero a program names its coordinates.
use Rattle.std.specs.Prelude.{ℕ, ℤ, Bool, true, false, not, ◌&&◌, ◌||◌, ◌==◌, if◌then◌else◌, Option, Some, None}
use Rattle.std.specs.Ordering.{int_eq}
use Rattle.mill_control.specs.declared.offsets.ToolLength.{ToolLength}
use Rattle.mill_control.specs.declared.offsets.ToolLength.TheVariants.{Beginning, Cancelled, Unnumbered, Numbered}
use Rattle.mill_control.specs.declared.offsets.Offsets.{Offsets}
use Rattle.mill_control.specs.declared.offsets.Named.{Named}

-- what is in force before the first line is a length and a zero of its own
abbrev pub first_offsets : Offsets
first_offsets = record { length = Beginning; zero = 0 }

abbrev pub none_named : Named
none_named = record { height = None; across = None }

abbrev pub same_length : ToolLength → ToolLength → Bool
same_length Beginning Beginning = true
same_length Cancelled Cancelled = true
same_length Unnumbered Unnumbered = true
same_length (Numbered a) (Numbered b) = int_eq a b
same_length a b = false

-- a G43 is in force
abbrev pub is_offset : ToolLength → Bool
is_offset Unnumbered = true
is_offset (Numbered a) = true
is_offset length = false

abbrev pub same_offsets : Offsets → Offsets → Bool
same_offsets a b = same_length a.length b.length && (a.zero == b.zero)

-- all heights are named under the length and the zero of the first one
abbrev pub height_fits : Option Offsets → Offsets → Bool
height_fits None o = true
height_fits (Some first) o = same_offsets first o

-- all places across are named under the zero of the first one
abbrev pub across_fits : Option ℕ → Offsets → Bool
across_fits None o = true
across_fits (Some first) o = first == o.zero

-- a line that names a height, or a place across, may come
abbrev pub may_name : Named → Offsets → Bool → Bool → Bool
may_name n o height across = (not height || height_fits n.height o) && (not across || across_fits n.across o)

-- what the first ones were named under, behind it
abbrev pub named : Named → Offsets → Bool → Bool → Named
named n o height across = record { height = if height then Some o else n.height; across = if across then Some o.zero else n.across }
