-- What the words of a line for a machine say, from left to right, or the first fault among them.
use Rattle.std.specs.Prelude.{ℕ, List, [], ◌∷◌, ◌++◌, Option, Some, None, is_some, Result, Ok, Err, Bool, true, false, not, ◌&&◌, ◌||◌, ◌==◌, if◌then◌else◌}
use Rattle.std.specs.List.{list_any}
use Rattle.mill_words.specs.Words.{Line}
use Rattle.mill_words.specs.declared.word.Num.{Num}
use Rattle.mill_words.specs.declared.word.Word.{Word}
use Rattle.mill_control.specs.declared.lengths.LengthUnit.TheVariants.{Millimetres, Inches}
use Rattle.mill_said.specs.declared.fault.NgcFault.{NgcFault}
use Rattle.mill_said.specs.declared.fault.NgcFault.TheVariants as fault
use Rattle.mill_said.specs.declared.groups.Group.{Group}
use Rattle.mill_said.specs.declared.machine_table.Row.{Row}
use Rattle.mill_said.specs.declared.machine_table.Meaning.{Meaning}
use Rattle.mill_said.specs.declared.machine_table.Meaning.TheVariants as meaning
use Rattle.mill_said.specs.declared.machine_takes.Takes.{Takes}
use Rattle.mill_said.specs.declared.machine_said.MachineSaid.{MachineSaid}
use Rattle.mill_said.specs.declared.machine_said.Motion.{Motion}
use Rattle.mill_said.specs.declared.machine_said.Motion.TheVariants.{Goes, Drills, Turns}
use Rattle.mill_said.specs.declared.before.Before.{Before}
use Rattle.mill_said.specs.declared.rules.Control.{Control}
use Rattle.mill_said.specs.MachineTable.{row_of}
use Rattle.mill_said.specs.MachineTakes.{takes, takes_of}
use Rattle.mill_said.specs.Numbers.{is_over_zero, whole_of}
use Rattle.mill_said.specs.Profile.{is_same_group, may_repeat, repeated}
use Rattle.mill_said.specs.Said.{◌>>=◌}

abbrev pub nothing_told : MachineSaid
nothing_told = record { begun = false; groups = []; motion = None; still = false; absolute = None; lengths = None; length = None; zero = None; returns = None; plane = None; up = None; alone = None; tolerates = false; exact = false; rests = false; ends = false; stops = false; changes = false; selects = false; spindle = None; speed = None; rate = None; x = None; y = None; z = None; r = None; q = None; p = None; h = None; i = None; j = None; k = None }

-- ---- two words that don't stand on one line

-- the line has an axis word
abbrev pub names_axis : MachineSaid → Bool
names_axis s = (is_some s.x || is_some s.y) || is_some s.z

-- a word of where an arc's centre is
abbrev pub names_centre : MachineSaid → Bool
names_centre s = (is_some s.i || is_some s.j) || is_some s.k

abbrev pub is_drills : Option Motion → Bool
is_drills (Some (Drills c)) = true
is_drills motion = false

abbrev pub is_turns : Option Motion → Bool
is_turns (Some (Turns t)) = true
is_turns motion = false

-- G80 may stand beside one G0 or G1; no other two words of the motion group may
abbrev pub motions_clash : MachineSaid → Meaning → Bool
motions_clash s (meaning.Straight kind) = is_some s.motion
motions_clash s (meaning.Turn t) = s.still || is_some s.motion
motions_clash s meaning.Still = s.still || (is_drills s.motion || is_turns s.motion)
motions_clash s (meaning.Drill c) = s.still || is_some s.motion
motions_clash s m = false

-- the unit isn't the one in force: it changes only before an axis word has come, and on that line
abbrev pub other_lengths : Before → Meaning → Bool
other_lengths p (meaning.Lengths Inches) = p.positioned && p.millimetres
other_lengths p (meaning.Lengths Millimetres) = p.positioned && p.inches
other_lengths p m = false

-- a word that goes with no axis word
abbrev pub is_alone : Meaning → Bool
is_alone meaning.Cancel = true
is_alone meaning.Rest = true
is_alone m = false

abbrev pub is_axis : Meaning → Bool
is_axis meaning.X = true
is_axis meaning.Y = true
is_axis meaning.Z = true
is_axis m = false

abbrev pub group_of_row : Word → Row → Group
group_of_row w row = record { letter = w.letter; number = row.group }

-- the words of motion modes have rules of their own
abbrev pub is_repeated : MachineSaid → Word → Row → Bool
is_repeated s w row = (not (may_repeat (group_of_row w row)) && not ((w.letter == 71) && (row.group == 1))) && list_any (is_same_group (group_of_row w row)) s.groups

-- an axis word beside one that goes with none
abbrev pub alone_fault : ℕ → Option ℕ → Option NgcFault
alone_fault line None = None
alone_fault line (Some group) = Some (fault.Group line group)

-- the first fault of a word beside those before it
abbrev pub clash_of : Before → MachineSaid → Word → Row → Option NgcFault
clash_of p s w row =
    if motions_clash s row.meaning then Some (fault.Group p.line row.group) else
    (if is_repeated s w row then Some (repeated p.line (group_of_row w row)) else
    (if other_lengths p row.meaning then Some (fault.Group p.line row.group) else
    (if is_alone row.meaning && names_axis s then Some (fault.Group p.line row.group) else
    (if is_axis row.meaning then alone_fault p.line s.alone else None))))

-- ---- one word

abbrev pub first_of : Option ℕ → ℕ → Option ℕ
first_of (Some group) other = Some group
first_of None other = Some other

-- what a word says that names a number
abbrev pub told_number : MachineSaid → Meaning → Num → MachineSaid
told_number s meaning.Speed n = record s { speed = Some (is_over_zero n) }
told_number s meaning.Rate n = record s { rate = Some (is_over_zero n) }
told_number s meaning.X n = record s { x = Some n }
told_number s meaning.Y n = record s { y = Some n }
told_number s meaning.Z n = record s { z = Some n }
told_number s meaning.R n = record s { r = Some n }
told_number s meaning.Q n = record s { q = Some n }
told_number s meaning.P n = record s { p = Some n }
told_number s meaning.H n = record s { h = Some n }
told_number s meaning.I n = record s { i = Some n }
told_number s meaning.J n = record s { j = Some n }
told_number s meaning.K n = record s { k = Some n }
told_number s m n = s

-- and one that stands for its line alone, or for the tool and the spindle
abbrev pub told_once : MachineSaid → Meaning → ℕ → Num → MachineSaid
told_once s meaning.Cancel group n = record s { alone = first_of s.alone group }
told_once s meaning.Rest group n = record s { alone = first_of s.alone group; rests = true }
told_once s meaning.Home group n = record s { up = Some (record { by_machine = false; num = n }) }
told_once s meaning.MachinePlace group n = record s { up = Some (record { by_machine = true; num = n }) }
told_once s meaning.Stop group n = record s { stops = true }
told_once s meaning.End group n = record s { ends = true }
told_once s meaning.Change group n = record s { changes = true }
told_once s (meaning.Spindle turns) group n = record s { spindle = Some turns }
told_once s meaning.Tool group n = record s { selects = true }
told_once s m group n = told_number s m n

-- and one that sets a mode
abbrev pub told_by : MachineSaid → Meaning → ℕ → Num → MachineSaid
told_by s (meaning.Straight kind) group n = record s { motion = Some (Goes kind) }
told_by s (meaning.Turn t) group n = record s { motion = Some (Turns t) }
told_by s (meaning.Plane plane) group n = record s { plane = Some plane }
told_by s meaning.Still group n = record s { still = true }
told_by s (meaning.Drill c) group n = record s { motion = Some (Drills c) }
told_by s (meaning.Absolute absolute) group n = record s { absolute = Some absolute }
told_by s (meaning.Lengths lengths) group n = record s { lengths = Some lengths }
told_by s (meaning.Length on) group n = record s { length = Some on }
told_by s (meaning.Zero zero) group n = record s { zero = Some zero }
told_by s (meaning.Returns returns) group n = record s { returns = Some returns }
told_by s meaning.Tolerance group n = record s { tolerates = true }
told_by s meaning.Exact group n = record s { exact = true }
told_by s m group n = told_once s m group n

abbrev pub told : MachineSaid → Row → Num → MachineSaid
told s row n = told_by s row.meaning row.group n

-- a name is a whole number, and is the first word of a line before the first axis word, or of that line
abbrev pub may_name_program : Before → MachineSaid → Meaning → Num → Bool
may_name_program p s meaning.Name n = (not s.begun && not p.positioned) && is_some (whole_of n)
may_name_program p s m n = true

abbrev pub may_tolerate : Takes → Meaning → Bool
may_tolerate t meaning.Tolerance = t.tolerance
may_tolerate t m = true

abbrev pub with_word : MachineSaid → Word → Row → MachineSaid
with_word s w row = record s { begun = true; groups = s.groups ++ group_of_row w row ∷ [] }

abbrev pub unless_clash : Option NgcFault → Result MachineSaid NgcFault → Result MachineSaid NgcFault
unless_clash (Some f) s = Err f
unless_clash None s = s

-- the line with a word of this row
unfoldable pub told_row : Before → Takes → MachineSaid → Word → Row → Result MachineSaid NgcFault
told_row p t s w row =
    if not (takes t row.meaning w.num && may_name_program p s row.meaning w.num) then Err (fault.NotInProfile p.line w.letter w.num) else
    unless_clash (clash_of p s w row)
    (if not (may_tolerate t row.meaning) then Err (fault.PathControl p.line) else Ok (told (with_word s w row) row w.num))

abbrev pub told_word_by : Before → Takes → MachineSaid → Word → Option Row → Result MachineSaid NgcFault
told_word_by p t s w None = Err (fault.NotInProfile p.line w.letter w.num)
told_word_by p t s w (Some row) = told_row p t s w row

abbrev pub told_word : Before → Takes → MachineSaid → Word → Result MachineSaid NgcFault
told_word p t s w = told_word_by p t s w (row_of w)

-- the line with these words behind those before them
unfoldable pub told_from : Before → Takes → MachineSaid → List Word → Result MachineSaid NgcFault
told_from p t s [] = Ok s
told_from p t s (w ∷ ws) = told_word p t s w >>= λ u. told_from p t u ws

-- what a line says; a slash at its start, which is 47, isn't of the table
abbrev pub told_line : Control → Before → Line → Result MachineSaid NgcFault
told_line c p l =
    if l.slash then Err (fault.NotInProfile p.line 47 (record { neg = false; mant = 0; scale = 0 }))
    else told_from p (takes_of c p l.words) nothing_told l.words
