-- What the words of a line mean, as far as it tells which letters the line takes.
use Rattle.std.specs.Prelude.{List, Option, Bool, true, false, not, ◌&&◌, ◌||◌, if◌then◌else◌}
use Rattle.mill_words.specs.declared.word.Word.{Word}
use Rattle.mill_control.specs.declared.lengths.LengthUnit.{LengthUnit}
use Rattle.mill_control.specs.declared.lengths.LengthUnit.TheVariants.{Millimetres, Inches}
use Rattle.mill_control.specs.declared.series.Cycle.{Cycle}
use Rattle.mill_said.specs.declared.machine_table.Meaning.{Meaning}
use Rattle.mill_said.specs.declared.machine_takes.Seen.{Seen}
use Rattle.mill_said.specs.MachineTakes.{dwells_by, has_word, is_drill, is_dwell, is_inches, is_length, is_millimetres, is_motion, is_rest, is_tolerance, is_turn}

-- with a word of this meaning
abbrev pub seen_with : Seen → Meaning → Seen
seen_with s m = record {
  number = is_length true m || s.number;
  no_number = is_length false m || s.no_number;
  rests = is_rest m || s.rests;
  tolerates = is_tolerance m || s.tolerates;
  moves = is_motion m || s.moves;
  drills = is_drill m || s.drills;
  dwells = is_dwell m || s.dwells;
  turns = is_turn m || s.turns;
  inches = is_inches m || s.inches;
  millimetres = is_millimetres m || s.millimetres;
}

-- what some word of the line means
abbrev pub seen_in : List Word → Seen
seen_in words = record {
  number = has_word (is_length true) words;
  no_number = has_word (is_length false) words;
  rests = has_word is_rest words;
  tolerates = has_word is_tolerance words;
  moves = has_word is_motion words;
  drills = has_word is_drill words;
  dwells = has_word is_dwell words;
  turns = has_word is_turn words;
  inches = has_word is_inches words;
  millimetres = has_word is_millimetres words;
}

-- the mode of the line is that of the cycle that dwells
abbrev pub dwells_in : Seen → Option Cycle → Bool
dwells_in s cycle = s.dwells || (not s.moves && dwells_by cycle)

-- the unit of its lengths, where they were millimetres or not
abbrev pub lengths_in : Seen → Bool → LengthUnit
lengths_in s millimetres = if s.inches then Inches else (if s.millimetres || millimetres then Millimetres else Inches)
