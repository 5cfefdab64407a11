-- What is known of the tool's place, and which lines may come then.
use Rattle.std.specs.Prelude.{Bool, true, false, not, ◌&&◌, ◌||◌, ◌==◌, if◌then◌else◌, Option, Some, None, is_some}
use Rattle.mill_control.specs.declared.place.Height.{Height}
use Rattle.mill_control.specs.declared.place.Height.TheVariants.{Unknown, High, Known}
use Rattle.mill_control.specs.declared.place.Place.{Place}
use Rattle.mill_control.specs.declared.place.Naming.{Naming}

-- before the first line nothing is known
abbrev pub nowhere : Place
nowhere = record { across = false; height = Unknown }

-- ---- what it isn't any more

abbrev pub unsure : Height → Height
unsure Known = Unknown
unsure other = other

-- another length: a height that is known isn't any more, one that is high still is
abbrev pub other_length : Place → Place
other_length p = record p { height = unsure p.height }

-- another zero, or another tool: nor are x and y
abbrev pub other_zero : Place → Place
other_zero p = record { across = false; height = unsure p.height }

-- ---- up, and parking

-- up to the machine's place
abbrev pub raised : Place → Place
raised p = record p { height = High }

-- it may park where it is high, or known to be at or over the safe height
abbrev pub may_park : Height → Bool → Bool
may_park Unknown over = false
may_park High over = true
may_park Known over = over

-- across to the machine's place, and up or not
abbrev pub parked : Place → Bool → Place
parked p up = record { across = false; height = if up then High else p.height }

-- ---- a line that names coordinates

-- Z is named, at or over the safe height
abbrev pub is_over : Option Bool → Bool
is_over None = false
is_over (Some over) = over

-- Z is named, under it
abbrev pub is_under : Option Bool → Bool
is_under None = false
is_under (Some over) = not over

-- by what is known of the height: straight up first, and no feed from a height that is only high
abbrev pub height_allows : Height → Naming → Bool
height_allows Unknown n = (n.rapid && is_over n.z) && not (n.x || n.y)
height_allows High n = n.rapid
height_allows Known n = true

abbrev pub is_high : Height → Bool
is_high High = true
is_high other = false

-- down only where x and y are known, and from a height that is only high straight down
abbrev pub low_allows : Place → Naming → Bool
low_allows p n = not (is_under n.z) || (p.across && not (is_high p.height && (n.x || n.y)))

-- where x and y aren't known, both are named or none
abbrev pub across_allows : Place → Naming → Bool
across_allows p n = p.across || ((n.x && n.y) || not (n.x || n.y))

abbrev pub is_known : Height → Bool
is_known Known = true
is_known other = false

-- a hole and an arc come where all is known
abbrev pub whole_allows : Place → Naming → Bool
whole_allows p n = not n.needs_place || (p.across && is_known p.height)

abbrev pub allows : Place → Naming → Bool
allows p n = (height_allows p.height n && low_allows p n) && (across_allows p n && whole_allows p n)

-- what is known behind it
abbrev pub behind : Place → Naming → Place
behind p n = record { across = p.across || (n.x && n.y); height = if is_some n.z then Known else p.height }
