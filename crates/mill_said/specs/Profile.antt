-- The table of the words that a program may have: each one's modal group, and its effect.
use Rattle.std.specs.Prelude.{ℕ, Option, Some, None, Bool, true, false, ◌&&◌, ◌||◌, ◌==◌, if◌then◌else◌}
use Rattle.mill_base.specs.declared.motion.Kind.TheVariants.{Rapid, Feed}
use Rattle.mill_words.specs.declared.word.Word.{Word}
use Rattle.mill_said.specs.declared.fault.NgcFault.{NgcFault}
use Rattle.mill_said.specs.declared.fault.NgcFault.TheVariants as fault
use Rattle.mill_said.specs.declared.groups.Group.{Group}
use Rattle.mill_said.specs.declared.profile.Entry.{Entry}
use Rattle.mill_said.specs.declared.profile.Effect.{Effect}
use Rattle.mill_said.specs.declared.profile.Effect.TheVariants.{Nothing, Motion, Absolute, Millimetres, End, Tool, Change, Spindle, Speed, Rate, X, Y, Z}
use Rattle.mill_said.specs.declared.profile.Mode.TheVariants.{Off, On}
use Rattle.mill_said.specs.Numbers.{whole_of}

abbrev pub row : ℕ → Effect → Entry
row group effect = record { group = group; effect = effect }

-- the G words
abbrev pub g_entry : ℕ → Option Entry
g_entry n =
    if n == 0 then Some (row 1 (Motion (On Rapid))) else
    (if n == 1 then Some (row 1 (Motion (On Feed))) else
    (if n == 80 then Some (row 1 (Motion Off)) else
    (if n == 17 then Some (row 2 Nothing) else
    (if n == 90 then Some (row 3 Absolute) else
    (if n == 94 then Some (row 5 Nothing) else
    (if n == 21 then Some (row 6 Millimetres) else
    (if n == 40 then Some (row 7 Nothing) else
    (if n == 49 then Some (row 8 Nothing) else
    (if n == 54 then Some (row 12 Nothing) else
    (if n == 61 then Some (row 13 Nothing) else None))))))))))

-- the M words
abbrev pub m_entry : ℕ → Option Entry
m_entry n =
    if (n == 2) || (n == 30) then Some (row 4 End) else
    (if n == 6 then Some (row 6 Change) else
    (if (n == 3) || (n == 4) then Some (row 7 (Spindle true)) else
    (if n == 5 then Some (row 7 (Spindle false)) else
    (if ((n == 7) || (n == 8)) || (n == 9) then Some (row 8 Nothing) else None))))

-- the letters whose number may be any: F, S, T, X, Y and Z are 70, 83, 84, 88, 89 and 90
abbrev pub letter_entry : ℕ → Option Entry
letter_entry letter =
    if letter == 70 then Some (row 0 Rate) else
    (if letter == 83 then Some (row 0 Speed) else
    (if letter == 84 then Some (row 0 Tool) else
    (if letter == 88 then Some (row 0 X) else
    (if letter == 89 then Some (row 0 Y) else
    (if letter == 90 then Some (row 0 Z) else None)))))

abbrev pub entry_in : (ℕ → Option Entry) → Option ℕ → Option Entry
entry_in table None = None
entry_in table (Some n) = table n

-- the row of a word, if it is of the profile; G is 71, M 77, and their numbers are compared by value
unfoldable pub entry_of : Word → Option Entry
entry_of w =
    if w.letter == 71 then entry_in g_entry (whole_of w.num) else
    (if w.letter == 77 then entry_in m_entry (whole_of w.num) else letter_entry w.letter)

-- a word selects or changes the tool
abbrev pub is_tool : Effect → Bool
is_tool Tool = true
is_tool Change = true
is_tool effect = false

abbrev pub is_same_group : Group → Group → Bool
is_same_group a b = (a.letter == b.letter) && (a.number == b.number)

-- M7, M8 and M9 may stand together
abbrev pub may_repeat : Group → Bool
may_repeat group = (group.letter == 77) && (group.number == 8)

-- the fault where a line has had the group
abbrev pub repeated : ℕ → Group → NgcFault
repeated line group =
    if (group.letter == 71) || (group.letter == 77) then fault.Group line group.number else fault.Twice line group.letter
