-- What a line of a program does, behind the lines before it.
use Rattle.std.specs.Prelude.{ℕ, ◌+◌, ◌==◌, nat_lt, Bool, true, false, not, ◌&&◌, if◌then◌else◌, List, [], ◌∷◌, length, filter, Option, Some, None, Result, Ok, Err}
use Rattle.std.specs.Str.{bytes_eq}
use Rattle.mill_base.specs.declared.points.Pt3.{Pt3}
use Rattle.mill_base.specs.declared.motion.Move.{Move}
use Rattle.mill_base.specs.declared.unit.Unit.{Unit}
use Rattle.mill_words.specs.Words.{Line, is_blank as is_blank_line}
use Rattle.mill_words.specs.Marks.{is_blank}
use Rattle.mill_words.specs.Lines.{line_of}
use Rattle.mill_words.specs.declared.word.WordFault.{WordFault}
use Rattle.mill_said.specs.declared.fault.NgcFault.{NgcFault}
use Rattle.mill_said.specs.declared.fault.NgcFault.TheVariants as fault
use Rattle.mill_said.specs.declared.before.Before.{Before}
use Rattle.mill_said.specs.declared.profile.Mode.TheVariants.{Off}
use Rattle.mill_block.specs.declared.progress.Frame.{Frame}
use Rattle.mill_block.specs.declared.progress.Frame.TheVariants.{Unknown, Framed, Plain}
use Rattle.mill_block.specs.declared.progress.Known.TheVariants.{Nothing}
use Rattle.mill_block.specs.declared.progress.Progress.{Progress}
use Rattle.mill_said.specs.declared.rules.Rules.{Rules}
use Rattle.mill_said.specs.declared.rules.Words.{Words}
use Rattle.mill_said.specs.declared.rules.Words.TheVariants.{Strict, Machine}
use Rattle.mill_block.specs.MachineLines.{machine_acted}
use Rattle.mill_said.specs.MachineSaid.{told_line}
use Rattle.mill_block.specs.MachineSettings.{machine_begun}
use Rattle.mill_block.specs.Drives.{no_drive}
use Rattle.mill_said.specs.Said.{◌>>=◌, said_by}
use Rattle.mill_block.specs.Motion.{acted}

-- a reader asks nothing beside of a program
abbrev pub no_rules : Rules
no_rules = record { from_anywhere = false; needs_spindle = false; words = Strict }

-- before the first line nothing is settled yet, and the tool stands at this point, or anywhere; coordinates are in this unit
abbrev pub start_at : Pt3 → Unit → Rules → Progress
start_at p unit rules = record { rules = rules; unit = unit; clear = p.z; here = p; known = Nothing; machine = machine_begun; drive = no_drive; mode = Off; millimetres = false; absolute = false; positioned = false; frame = Unknown; ended = false; moves = 0; line = 0 }

-- ---- the frame

-- the line holds only a percent sign, which is 37, and blanks
abbrev pub is_percent : List ℕ → Bool
is_percent line = bytes_eq (filter (λ b. not (is_blank b)) line) (37 ∷ [])

-- the same byte by byte: whether the sign has come behind this byte, where it had come or not; None where the line isn't such a line
abbrev pub percent_step : Bool → ℕ → Option Bool
percent_step seen b = if is_blank b then Some seen else (if (b == 37) && not seen then Some true else None)

-- such a line counts where the program may be framed
abbrev pub has_frame : Frame → Bool → Bool
has_frame Plain percent = false
has_frame _ percent = percent

abbrev pub in_frame : Frame → Progress → Progress
in_frame Framed p = record p { ended = true }
in_frame _ p = record p { frame = Framed }

-- it begins the frame, or ends the program
abbrev pub with_percent : Progress → Progress
with_percent p = in_frame p.frame p

abbrev pub frame_after : Frame → Bool → Frame
frame_after Unknown blank = if blank then Unknown else Plain
frame_after Framed blank = Framed
frame_after Plain blank = Plain

-- another line shows that a program isn't framed, unless it is blank
abbrev pub with_line : Progress → Bool → Progress
with_line p blank = record p { frame = frame_after p.frame blank }

-- ---- a line

-- what the lines before a line tell of it
abbrev pub settled_before : Progress → Before
settled_before p = record { line = p.line; unit = p.unit; positioned = p.positioned; millimetres = p.millimetres; inches = p.machine.inches; cycle = p.machine.cycle; turn = p.machine.turn }

-- what the words of a line do
abbrev pub acted_by : Words → Progress → Line → Result (Progress × List Move) NgcFault
acted_by Strict p l = said_by p.line p.positioned l >>= acted p
acted_by (Machine c) p l = told_line c (settled_before p) l >>= machine_acted c p

unfoldable pub after_words : Progress → Line → Result (Progress × List Move) NgcFault
after_words p l = acted_by p.rules.words (with_line p (is_blank_line l)) l

abbrev pub words_or_fault : ℕ → Result Line WordFault → Result Line NgcFault
words_or_fault line (Ok l) = Ok l
words_or_fault line (Err f) = Err (fault.Word line f)

-- the next line begins
abbrev pub line_begun : Progress → Progress
line_begun p = record p { line = p.line + 1 }

abbrev pub line_in : Progress → List ℕ → Result (Progress × List Move) NgcFault
line_in p line =
    if nat_lt 256 (length line) then Err (fault.LongLine p.line) else
    (if has_frame p.frame (is_percent line) then Ok (with_percent p, [])
    else words_or_fault p.line (line_of line) >>= after_words p)

-- what the next line does: the progress behind it, and the moves that it makes
unfoldable pub after_line : Progress → List ℕ → Result (Progress × List Move) NgcFault
after_line p line = line_in (line_begun p) line
