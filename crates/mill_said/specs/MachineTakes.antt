-- What the whole line tells of which letters it takes.
use Rattle.std.specs.Prelude.{ℕ, ℤ, List, [], ◌∷◌, Option, Some, None, is_some, Bool, true, false, not, ◌&&◌, ◌||◌, ◌==◌, ◌*◌, ◌^◌, nat_le, nat_abs, if◌then◌else◌}
use Rattle.std.specs.List.{list_any}
use Rattle.mill_words.specs.declared.word.Num.{Num}
use Rattle.mill_words.specs.declared.word.Word.{Word}
use Rattle.mill_control.specs.Lengths.{per}
use Rattle.mill_control.specs.declared.lengths.LengthUnit.{LengthUnit}
use Rattle.mill_control.specs.declared.lengths.LengthUnit.TheVariants.{Millimetres, Inches}
use Rattle.mill_control.specs.declared.series.Cycle.{Cycle}
use Rattle.mill_control.specs.declared.series.Cycle.TheVariants.{Dwell}
use Rattle.mill_control.specs.declared.turn.Turn.{Turn}
use Rattle.mill_said.specs.declared.machine_table.Row.{Row}
use Rattle.mill_said.specs.declared.machine_table.Meaning.{Meaning}
use Rattle.mill_said.specs.declared.machine_table.Meaning.TheVariants as meaning
use Rattle.mill_said.specs.declared.machine_takes.Takes.{Takes}
use Rattle.mill_said.specs.declared.before.Before.{Before}
use Rattle.mill_said.specs.declared.rules.Control.{Control}
use Rattle.mill_said.specs.MachineTable.{row_of}
use Rattle.mill_said.specs.Numbers.{is_over_zero}

-- ---- the words of a line

abbrev pub meaning_of : Option Row → Meaning
meaning_of None = meaning.Nothing
meaning_of (Some row) = row.meaning

-- some word of the line means this
abbrev pub has_word : (Meaning → Bool) → List Word → Bool
has_word test words = list_any (λ w. test (meaning_of (row_of w))) words

abbrev pub is_motion : Meaning → Bool
is_motion (meaning.Straight kind) = true
is_motion (meaning.Turn t) = true
is_motion meaning.Still = true
is_motion (meaning.Drill c) = true
is_motion m = false

abbrev pub is_turn : Meaning → Bool
is_turn (meaning.Turn t) = true
is_turn m = false

abbrev pub is_drill : Meaning → Bool
is_drill (meaning.Drill c) = true
is_drill m = false

abbrev pub is_dwell : Meaning → Bool
is_dwell (meaning.Drill Dwell) = true
is_dwell m = false

abbrev pub is_length : Bool → Meaning → Bool
is_length true (meaning.Length true) = true
is_length false (meaning.Length false) = true
is_length on m = false

abbrev pub is_rest : Meaning → Bool
is_rest meaning.Rest = true
is_rest m = false

abbrev pub is_tolerance : Meaning → Bool
is_tolerance meaning.Tolerance = true
is_tolerance m = false

abbrev pub is_inches : Meaning → Bool
is_inches (meaning.Lengths Inches) = true
is_inches m = false

abbrev pub is_millimetres : Meaning → Bool
is_millimetres (meaning.Lengths Millimetres) = true
is_millimetres m = false

-- the number of the line's first P, whose letter is 80
abbrev pub first_p : List Word → Option Num
first_p [] = None
first_p (w ∷ words) = if w.letter == 80 then Some w.num else first_p words

-- ---- what is in force

abbrev pub dwells_by : Option Cycle → Bool
dwells_by (Some Dwell) = true
dwells_by cycle = false

-- the mode of the line is a drilling cycle's: that of one of its words, or the one in force
abbrev pub line_drills : Option Cycle → List Word → Bool
line_drills cycle words = has_word is_drill words || (not (has_word is_motion words) && is_some cycle)

-- it is an arc's
abbrev pub line_turns : Option Turn → List Word → Bool
line_turns turn words = has_word is_turn words || (not (has_word is_motion words) && is_some turn)

abbrev pub line_dwells : Option Cycle → List Word → Bool
line_dwells cycle words = has_word is_dwell words || (not (has_word is_motion words) && dwells_by cycle)

-- the unit of the line's lengths: that of one of its words, or the one in force, and inches where there is none
abbrev pub line_lengths : Bool → List Word → LengthUnit
line_lengths millimetres words =
    if has_word is_inches words then Inches else
    (if has_word is_millimetres words || millimetres then Millimetres else Inches)

-- ---- the path's tolerance

-- so many lengths aren't over this many units
abbrev pub is_at_most : ℕ → ℤ → Num → Bool
is_at_most per units n = nat_le (n.mant * per) (nat_abs units * 10 ^ n.scale)

-- a tolerance over 0 that isn't greater than this
abbrev pub is_tolerable : ℕ → ℤ → Option Num → Bool
is_tolerable per greatest None = false
is_tolerable per greatest (Some n) = is_over_zero n && is_at_most per greatest n

-- ---- all of it

abbrev pub takes_of : Control → Before → List Word → Takes
takes_of c p words = record {
  number = has_word (is_length true) words;
  no_number = has_word (is_length false) words;
  rest = has_word is_rest words || (has_word is_tolerance words || line_dwells p.cycle words);
  drill = line_drills p.cycle words;
  turn = line_turns p.turn words;
  tolerance = is_tolerable (per (line_lengths p.millimetres words) p.unit) c.path_tolerance (first_p words);
}

-- the line takes a word of this meaning with this number: H with G43, H0 with G49; P with G4, G64, or where it dwells; R and Q where it drills; R, I, J and K where it turns
abbrev pub takes : Takes → Meaning → Num → Bool
takes t meaning.H n = t.number || (t.no_number && (n.mant == 0))
takes t meaning.P n = t.rest
takes t meaning.R n = t.drill || t.turn
takes t meaning.I n = t.turn
takes t meaning.J n = t.turn
takes t meaning.K n = t.turn
takes t meaning.Q n = t.drill
takes t m n = true
