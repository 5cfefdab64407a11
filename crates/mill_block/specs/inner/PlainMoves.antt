-- What a line that is only a move has said so far, and its move.
use Rattle.std.specs.Prelude.{◌≡◌, ℕ, ℤ, ◌+◌, ◌<◌, ◌≤◌, ◌⊎◌, Bool, true, false, ◌||◌, if◌then◌else◌, List, ◌++◌, drop, length, slice_index, Option, Some, None, is_some, unwrap_or, Result, Ok}
use Rattle.std.specs.Char.{is_ascii_alphabetic, to_ascii_uppercase}
use Rattle.std.specs.List.{list_any}
use Rattle.mill_base.specs.Numbers.{Within}
use Rattle.mill_base.specs.declared.limits.TheConstants.{MAX_MOVES}
use Rattle.mill_base.specs.Ranges.{IsInUnitRange}
use Rattle.mill_base.specs.Units.{greatest_of}
use Rattle.mill_base.specs.declared.motion.Kind.{Kind}
use Rattle.mill_base.specs.declared.motion.Move.{Move}
use Rattle.mill_base.specs.declared.points.Pt3.{Pt3}
use Rattle.mill_base.specs.declared.unit.Unit.{Unit as LengthUnit}
use Rattle.mill_words.specs.Lines.{EndsWord, and_word, is_word_letter, line_from, line_of}
use Rattle.mill_words.specs.Words.{FitsNum, Line}
use Rattle.mill_words.specs.declared.word.Num.{Num}
use Rattle.mill_words.specs.declared.word.Word.{Word}
use Rattle.mill_block.specs.MachineSettings.{nothing_finer}
use Rattle.mill_control.specs.declared.place.Height.TheVariants.{Known as KnownHeight}
use Rattle.mill_said.specs.declared.fault.NgcFault.{NgcFault}
use Rattle.mill_said.specs.declared.before.Before.{Before}
use Rattle.mill_said.specs.declared.groups.Group.{Group}
use Rattle.mill_block.specs.declared.machine.Machine.{Machine}
use Rattle.mill_said.specs.declared.machine_said.MachineSaid.{MachineSaid}
use Rattle.mill_said.specs.declared.machine_said.Motion.{Motion as LineMotion}
use Rattle.mill_said.specs.declared.machine_said.Motion.TheVariants as line_motion
use Rattle.mill_said.specs.declared.machine_table.Meaning.TheVariants as meaning
use Rattle.mill_said.specs.declared.machine_takes.Takes.{Takes}
use Rattle.mill_block.specs.declared.plain_move.PlainLine.{PlainLine}
use Rattle.mill_block.specs.declared.plain_move.PlainMove.{PlainMove}
use Rattle.mill_said.specs.declared.profile.Effect.TheVariants.{Motion}
use Rattle.mill_said.specs.declared.profile.Mode.{Mode}
use Rattle.mill_said.specs.declared.profile.Mode.TheVariants.{On}
use Rattle.mill_block.specs.declared.progress.Drive.{Drive}
use Rattle.mill_block.specs.declared.progress.Known.TheVariants.{All}
use Rattle.mill_block.specs.declared.progress.Progress.{Progress}
use Rattle.mill_said.specs.declared.rules.Words.{Words}
use Rattle.mill_said.specs.declared.rules.Words.TheVariants.{Strict, Machine as MachineWords}
use Rattle.mill_said.specs.declared.said.Said.{Said}
use Rattle.mill_block.specs.Drives.{full_drive}
use Rattle.mill_said.specs.MachineSaid.{nothing_told, told_from, told_word}
use Rattle.mill_said.specs.MachineTable.{in_group, machine_g_row, row_in, tenths_of}
use Rattle.mill_block.specs.Motion.{known_of, made_move}
use Rattle.mill_said.specs.Numbers.{axis_units, is_over_zero, whole_of}
use Rattle.mill_said.specs.Profile.{entry_in, g_entry, is_same_group, row}
use Rattle.mill_block.specs.Lines.{after_words, frame_after}
use Rattle.mill_said.specs.Said.{after_word, nothing_said, said_from}

-- ---- what is taken

-- a number's units, in range; it has at most 18 digits
pub record IsUnits (unit : LengthUnit) (line : ℕ) (units : ℤ) (n : Num) : Type 0 where
  pub fits : FitsNum 18 n
  pub value : axis_units unit line n ≡ Ok units
  pub within : Within (greatest_of unit) units

-- the units of an axis number, or no number
abbrev pub IsAxis : LengthUnit → ℕ → Option ℤ → Option Num → Type 0
IsAxis unit line None None = Unit {0}
IsAxis unit line (Some units) (Some n) = IsUnits unit line units n
IsAxis unit line units n = ⊥

-- the number of a G word sets this motion mode, by either table
pub record SetsMotion (n : Num) (kind : Kind) : Type 0 where
  pub strict : entry_in g_entry (whole_of n) ≡ Some (row 1 (Motion (On kind)))
  pub machine : row_in machine_g_row (tenths_of n) ≡ in_group 1 (meaning.Straight kind)

abbrev pub IsMotion : Num → Option Kind → Type 0
IsMotion n None = ⊥
IsMotion n (Some kind) = SetsMotion n kind

abbrev pub mode_of : Option Kind → Option Mode
mode_of None = None
mode_of (Some kind) = Some (On kind)

-- unless the line had such a word, its group isn't among those that it had
abbrev pub IsFree : Bool → ℕ → ℕ → List Group → Type 0
IsFree had letter number groups = had ≡ false → list_any (is_same_group (record { letter = letter; number = number })) groups ≡ false

-- ---- what was said

-- what is free: X, Y, Z, the motion modes and F, whose letters are 88, 89, 90, 71 and 70
pub record AreFree (plain : PlainLine) (groups : List Group) : Type 0 where
  pub x : IsFree (is_some plain.x) 88 0 groups
  pub y : IsFree (is_some plain.y) 89 0 groups
  pub z : IsFree (is_some plain.z) 90 0 groups
  pub motion : IsFree (is_some plain.kind) 71 1 groups
  pub feed : IsFree plain.feed 70 0 groups

-- an F says that the feed rate is over 0
abbrev pub rate_of : Bool → Option Bool
rate_of feed = if feed then Some true else None

-- the words of a line have said this, in units, and no more
pub record Says (unit : LengthUnit) (line : ℕ) (plain : PlainLine) (s : Said) : Type 0 where
  pub x : IsAxis unit line plain.x s.x
  pub y : IsAxis unit line plain.y s.y
  pub z : IsAxis unit line plain.z s.z
  pub mode : s.mode ≡ mode_of plain.kind
  pub millimetres : s.millimetres ≡ false
  pub absolute : s.absolute ≡ false
  pub ends : s.ends ≡ false
  pub changes : s.changes ≡ false
  pub spindle : s.spindle ≡ None
  pub speed : s.speed ≡ None
  pub rate : s.rate ≡ rate_of plain.feed
  pub free : AreFree plain s.groups

abbrev pub one_if : Bool → ℕ
one_if b = if b then 1 else 0

-- how many words such a line has, each of which says another thing
abbrev pub words_in : PlainLine → ℕ
words_in plain = one_if (is_some plain.kind) + (one_if plain.feed + (one_if (is_some plain.x) + (one_if (is_some plain.y) + one_if (is_some plain.z))))

-- the letter of a word, in upper case
pub record IsCapital (b : ℕ) : Type 0 where
  pub letter : is_word_letter b ≡ true
  pub alphabetic : is_ascii_alphabetic b ≡ true
  pub upper : to_ascii_uppercase b ≡ b

-- the motion that this mode is on a line for a machine
abbrev pub motion_of : Option Mode → Option LineMotion
motion_of (Some (On kind)) = Some (line_motion.Goes kind)
motion_of mode = None

-- the same words tell this on a line for a machine, if all of them are plain
abbrev pub told_as : Bool → Said → MachineSaid
told_as begun s = record nothing_told { begun = begun; groups = s.groups; motion = motion_of s.mode; rate = s.rate; x = s.x; y = s.y; z = s.z }

-- one word more has said this, by either table
pub record Goes (unit : LengthUnit) (line : ℕ) (positioned : Bool) (w : Word) (s : Said) (plain : PlainLine) : Type 0 where
  pub said : Said
  pub taken : after_word line positioned s w ≡ Ok said
  pub told : (p : Before) (t : Takes) (begun : Bool) → told_word p t (told_as begun s) w ≡ Ok (told_as true said)
  pub says : Says unit line plain said

-- ---- the move

-- all that a feed needs is there, where it is asked for
abbrev pub HasDrive : Bool → Drive → Type 0
HasDrive asked d = (if asked then d else full_drive) ≡ full_drive

-- a line that is only a move changes nothing that words for a machine have settled: there is no drilling cycle and no arc, lengths are millimetres, the place is known, a whole number of units, and was named under what is in force, and no tool has been selected since
pub record IsSettled (m : Machine) : Type 0 where
  pub inches : m.inches ≡ false
  pub cycle : m.cycle ≡ None
  pub turn : m.turn ≡ None
  pub series : m.series ≡ None
  pub place : m.place ≡ record { across = true; height = KnownHeight }
  pub finer : m.finer ≡ nothing_finer
  pub named : m.named ≡ record { height = Some m.offsets; across = Some m.offsets.zero }
  pub has_named : m.has_named ≡ true
  pub late : m.late ≡ false

-- with these words such a line is only a move: with strict ones always
abbrev pub TakesPlain : Words → Machine → Type 0
TakesPlain Strict m = Unit {0}
TakesPlain (MachineWords c) m = IsSettled m

-- a line that is only a move changes neither the frame nor the settings, and there is room for its move; its words do no more, the tool's place is known, and what a feed needs is there
pub record IsReady (p : Progress) : Type 0 where
  pub words : TakesPlain p.rules.words p.machine
  pub place : known_of p ≡ All
  pub drive : HasDrive p.rules.needs_spindle p.drive
  pub few : p.moves < MAX_MOVES
  pub frame : (blank : Bool) → frame_after p.frame blank ≡ p.frame
  pub millimetres : p.millimetres ≡ true
  pub absolute : p.absolute ≡ true

abbrev pub plain_target : Pt3 → PlainLine → Pt3
plain_target here plain = record { x = unwrap_or plain.x here.x; y = unwrap_or plain.y here.y; z = unwrap_or plain.z here.z }

-- the move of a line that has said this
pub record IsEnd (p : Progress) (plain : PlainLine) (m : PlainMove) : Type 0 where
  pub some : ((is_some plain.x || is_some plain.y) || is_some plain.z) ≡ true
  pub mode : unwrap_or (mode_of plain.kind) p.mode ≡ On m.kind
  pub to : m.to ≡ plain_target p.here plain

-- the move is made, and a program goes on
abbrev pub made_plain : Progress → PlainMove → Result (Progress × List Move) NgcFault
made_plain p m = made_move (record p { mode = On m.kind; ended = false }) m.kind m.to

-- all that a line does is this move
pub record MovesTo (p : Progress) (l : Line) (m : PlainMove) : Type 0 where
  pub moves : after_words p l ≡ made_plain p m
  pub place : known_of p ≡ All
  pub few : p.moves < MAX_MOVES
  pub in_range : IsInUnitRange p.unit m.to

-- the first i words of a line have said this
pub record TakenTo (p : Progress) (words : List Word) (i : ℕ) (plain : PlainLine) : Type 0 where
  pub said : Said
  pub so_far : said_from p.line p.positioned said (drop i words) ≡ said_from p.line p.positioned nothing_said words
  pub begun : Bool
  pub told : (q : Before) (t : Takes) → told_from q t (told_as begun said) (drop i words) ≡ told_from q t nothing_told words
  pub says : Says p.unit p.line plain said

-- the bytes of a line before a place are words that have said this
pub record ReadTo (p : Progress) (bytes : List ℕ) (place : ℕ) (plain : PlainLine) : Type 0 where
  pub line : Line
  pub rest : EndsWord bytes place → line_of bytes ≡ line_from line bytes place
  pub slash : line.slash ≡ false
  pub said : Said
  pub so_far : (more : List Word) → said_from p.line p.positioned nothing_said (line.words ++ more) ≡ said_from p.line p.positioned said more
  pub begun : Bool
  pub told : (q : Before) (t : Takes) (more : List Word) → told_from q t nothing_told (line.words ++ more) ≡ told_from q t (told_as begun said) more
  pub says : Says p.unit p.line plain said
  pub few : length line.words ≤ words_in plain

-- all that a line of these bytes does is this move
pub record LineMovesTo (p : Progress) (bytes : List ℕ) (m : PlainMove) : Type 0 where
  pub line : Line
  pub told : line_of bytes ≡ Ok line
  pub moves : MovesTo p line m

-- ---- a line in the usual order

-- what such a line has said
abbrev pub in_order : Option Kind → Option ℤ → Option ℤ → Option ℤ → PlainLine
in_order kind x y z = record { kind = kind; feed = false; x = x; y = y; z = z }

-- at the place stands a word of this letter that names these units, and the line goes on behind it
pub record AxisWord (unit : LengthUnit) (line : ℕ) (bytes : List ℕ) (place letter : ℕ) (units : ℤ) (end : ℕ) : Type 0 where
  pub num : Num
  pub letter_is : slice_index bytes place ≡ letter
  pub word : (l : Line) → is_word_letter (slice_index bytes place) ≡ true → length l.words < 32 → EndsWord bytes end
      → line_from l bytes place ≡ line_from (and_word l (to_ascii_uppercase (slice_index bytes place)) num) bytes end
  pub units_are : IsUnits unit line units num

-- that word is read, or none
abbrev pub ReadsAxis : LengthUnit → ℕ → List ℕ → ℕ → ℕ → Option ℤ → ℕ → Type 0
ReadsAxis unit line bytes place letter None end = end ≡ place
ReadsAxis unit line bytes place letter (Some units) end = AxisWord unit line bytes place letter units end

-- the last word of the line stands at the place, and is a feed rate over 0, whose letter is 70
pub record FeedWord (bytes : List ℕ) (place : ℕ) : Type 0 where
  pub num : Num
  pub over : is_over_zero num ≡ true
  pub letter_is : slice_index bytes place ≡ 70
  pub word : (l : Line) → is_word_letter (slice_index bytes place) ≡ true → length l.words < 32 → EndsWord bytes (length bytes)
      → line_from l bytes place ≡ line_from (and_word l (to_ascii_uppercase (slice_index bytes place)) num) bytes (length bytes)

-- the line ends there, or behind that word
abbrev pub EndsLine : List ℕ → ℕ → Type 0
EndsLine bytes place = (length bytes ≤ place) ⊎ FeedWord bytes place
