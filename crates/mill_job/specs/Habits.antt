-- What a document says of a machine's habits, and what is wrong with it.
use Rattle.std.specs.Prelude.{ℕ, codes, bytes_eq, Bool, true, false, if◌then◌else◌, List, [], ◌∷◌, map, ℤ, pos, ◌+ℤ◌, ◌-ℤ◌, not, ◌&&◌, Option, Some, None, option_and_then, unwrap_or}
use Rattle.toml.specs.Data.{Members, get_member, as_bool, as_str}
use Rattle.mill_base.specs.Motion.{bent, bent_kind, changes_two}
use Rattle.mill_base.specs.declared.motion.Kind.{Kind}
use Rattle.mill_base.specs.declared.motion.Move.{Move}
use Rattle.mill_job.specs.Keys.{name_of}
use Rattle.mill_job.specs.Tables.{may_be}
use Rattle.mill_job.specs.declared.fault.JobFault.{JobFault}
use Rattle.mill_job.specs.declared.habits.Rapids.{Rapids}
use Rattle.mill_job.specs.declared.habits.Rapids.TheVariants.{Straight, Axes}
use Rattle.mill_job.specs.declared.habits.Start.{Start}
use Rattle.mill_job.specs.declared.habits.Start.TheVariants as start
use Rattle.mill_base.specs.declared.unit.Unit.{Unit}
use Rattle.mill_base.specs.declared.unit.Unit.TheVariants.{Hundredth, Thousandth}
use Rattle.mill_job.specs.declared.fields.JobFields.{JobFields}
use Rattle.mill_job.specs.declared.limits.TheConstants.{SPARE_ARC}
use Rattle.mill_job.specs.declared.habits.ToolLengths.{ToolLengths}
use Rattle.mill_job.specs.declared.habits.ToolLengths.TheVariants.{Table, One}
use Rattle.mill_job.specs.declared.habits.Words.{Words}
use Rattle.mill_job.specs.declared.habits.Words.TheVariants.{Strict, Machine}
use Rattle.mill_job.specs.declared.key.Key.{Key}
use Rattle.mill_job.specs.declared.key.Key.TheVariants as key

-- the texts of the ways in which a machine moves its rapids
abbrev pub rapids_texts : List (List ℕ)
rapids_texts = codes "straight" ∷ codes "axes" ∷ []

-- the text `axes` means each axis for itself, and any other, or none, straight
abbrev pub rapids_from : Option (List ℕ) → Rapids
rapids_from None = Straight
rapids_from (Some text) = if bytes_eq text (codes "axes") then Axes else Straight

-- how a document's machine moves its rapids
unfoldable pub rapids_of : Members → Rapids
rapids_of ms = rapids_from (option_and_then as_str (get_member (name_of key.Rapids) ms))

-- the kind of a move that is or isn't along two axes or more, as a machine with such rapids makes it
abbrev pub kind_by : Rapids → Kind → Bool → Kind
kind_by Straight kind two = kind
kind_by Axes kind two = bent_kind kind two

-- the move as such a machine makes it
abbrev pub made_by : Rapids → Move → Move
made_by rapids m = record { kind = kind_by rapids m.kind (changes_two m); from = m.from; to = m.to }

-- the moves as such a machine makes them
abbrev pub run_by : Rapids → List Move → List Move
run_by Straight moves = moves
run_by Axes moves = map bent moves

-- the texts of the places from which a program starts
abbrev pub start_texts : List (List ℕ)
start_texts = codes "home" ∷ codes "anywhere" ∷ codes "change" ∷ []

-- the texts `anywhere` and `change` mean what they say, and any other, or none, over home
abbrev pub start_from : Option (List ℕ) → Start
start_from None = start.Home
start_from (Some text) = if bytes_eq text (codes "change") then start.Change else (if bytes_eq text (codes "anywhere") then start.Anywhere else start.Home)

-- from where a document's programs start
unfoldable pub start_of : Members → Start
start_of ms = start_from (option_and_then as_str (get_member (name_of key.Start) ms))

-- a program may start from elsewhere than over home
abbrev pub is_elsewhere : Start → Bool
is_elsewhere start.Home = false
is_elsewhere start.Anywhere = true
is_elsewhere start.Change = true

-- the texts of the words that programs have
abbrev pub words_texts : List (List ℕ)
words_texts = codes "strict" ∷ codes "machine" ∷ []

-- the text `machine` means those that machines' programs have, and any other, or none, those of the short table
abbrev pub words_from : Option (List ℕ) → Words
words_from None = Strict
words_from (Some text) = if bytes_eq text (codes "machine") then Machine else Strict

-- which words a document's programs have
unfoldable pub words_of : Members → Words
words_of ms = words_from (option_and_then as_str (get_member (name_of key.Words) ms))

-- programs have a machine's words
abbrev pub are_for_machine : Words → Bool
are_for_machine Strict = false
are_for_machine Machine = true

-- a machine's programs don't start over home
abbrev pub starts_at_home : JobFields → Bool
starts_at_home job = are_for_machine job.words && not (is_elsewhere job.start)

-- how far over the depth before a peck's way down ends, a quarter of a millimetre where the document doesn't say
abbrev pub quarter_of : Unit → ℤ
quarter_of Hundredth = pos 25
quarter_of Thousandth = pos 250

abbrev pub clearance_of : JobFields → ℤ
clearance_of job = unwrap_or job.peck_clearance (quarter_of job.unit)

-- by how many units the distances of an arc's start and end from its centre may differ, where the document doesn't say
abbrev pub usual_arc_tolerance : Unit → ℤ
usual_arc_tolerance Hundredth = pos 1
usual_arc_tolerance Thousandth = pos 3

abbrev pub arc_tolerance_of : JobFields → ℤ
arc_tolerance_of job = unwrap_or job.arc_tol (usual_arc_tolerance job.unit)

-- how many units of the slack an arc leaves for the machine: there is no room for arcs where that is under 0
abbrev pub arc_room_of : JobFields → ℤ
arc_room_of job = job.slack -ℤ (arc_tolerance_of job +ℤ SPARE_ARC)

-- the texts of what a machine does with tool lengths
abbrev pub lengths_texts : List (List ℕ)
lengths_texts = codes "table" ∷ codes "one" ∷ []

-- the text `one` means that all are the same, and any other, or none, that a table has them
abbrev pub lengths_from : Option (List ℕ) → ToolLengths
lengths_from None = Table
lengths_from (Some text) = if bytes_eq text (codes "one") then One else Table

-- what a document's machine does with tool lengths
unfoldable pub lengths_of : Members → ToolLengths
lengths_of ms = lengths_from (option_and_then as_str (get_member (name_of key.Lengths) ms))

-- either truth value is in range
abbrev pub is_flag : Bool → Bool
is_flag flag = true

-- what is wrong with the truth value at a key that may be left out
unfoldable pub flag_fault : Key → Members → Option JobFault
flag_fault key ms = may_be key as_bool is_flag (get_member (name_of key) ms)

-- the truth value at a key, false where there is none
unfoldable pub flag_at : Key → Members → Bool
flag_at key ms = unwrap_or (option_and_then as_bool (get_member (name_of key) ms)) false
