-- Behind its header and the way to its first place, a framed program of one line for each move means these moves.
use Rattle.std.proofs.Common.{◌≡◌, ℕ, ◌+◌, ◌*◌, ◌≤◌, ◌<◌, suc, List, [], ◌∷◌, ◌++◌, length, map, arith, rules, Bool, true, false, Some, None, Ok, refl, ap, ◌∙◌, append_assoc}
use Rattle.std.specs.Prelude.{ℤ, pos, negsuc, nat_abs, int_lt, nat_lt, nat_le, codes, is_some, if◌then◌else◌, Option}
use Rattle.std.proofs.lemmas.Bool.Decides.{nat_tests}
use Rattle.std.proofs.lemmas.List.Elements.{Contains-append_right}
use Rattle.mill_base.specs.Numbers.{Within}
use Rattle.mill_base.specs.Units.{places_of, greatest_of}
use Rattle.mill_base.specs.declared.limits.TheConstants.{MAX_MOVES}
use Rattle.mill_base.specs.declared.unit.Unit.{Unit}
use Rattle.mill_base.specs.declared.unit.Unit.TheVariants.{Hundredth, Thousandth}
use Rattle.mill_base.specs.Ranges.{IsInUnitRange, MoveInUnitRange, MovesInUnitRange}
use Rattle.mill_base.specs.Motion.{Follow}
use Rattle.mill_base.specs.declared.points.Pt3.{Pt3}
use Rattle.mill_base.specs.declared.motion.Kind.{Kind}
use Rattle.mill_base.specs.declared.motion.Kind.TheVariants.{Rapid, Feed, Dogleg}
use Rattle.mill_base.specs.declared.motion.Move.{Move}
use Rattle.mill_words.specs.Marks.{marks_from}
use Rattle.mill_words.specs.Lines.{grown_word, finished, started, read_marks, line_of}
use Rattle.mill_words.specs.declared.word.Num.{Num}
use Rattle.mill_words.specs.declared.word.Word.{Word}
use Rattle.mill_said.specs.declared.profile.Mode.{Mode}
use Rattle.mill_said.specs.declared.profile.Mode.TheVariants.{Off, On}
use Rattle.mill_block.specs.declared.progress.Frame.TheVariants.{Framed}
use Rattle.mill_block.specs.declared.progress.Progress.{Progress}
use Rattle.mill_said.specs.declared.said.Said.{Said}
use Rattle.mill_said.specs.Numbers.{axis_units, is_on_grid, whole_units, whole_of}
use Rattle.mill_said.specs.Profile.{entry_of}
use Rattle.mill_said.specs.Said.{after_entry, said_from, said_by}
use Rattle.mill_block.specs.Motion.{target, moved, acted}
use Rattle.mill_block.specs.Lines.{is_percent, after_words, after_line, start_at}
use Rattle.mill_block.specs.MachineSettings.{machine_begun}
use Rattle.mill_block.specs.Drives.{no_drive}
use Rattle.mill_block.specs.declared.progress.Known.{Known}
use Rattle.mill_block.specs.declared.progress.Known.TheVariants.{Nothing, All}
use Rattle.mill_ngc.specs.Writing.{as_written, written_as}
use Rattle.mill_ngc.specs.Programs.{moves_from}
use Rattle.mill_ngc.specs.Readings.{rules_with}
use Rattle.mill_said.specs.declared.rules.Words.TheVariants.{Strict}

-- ---- the words of a move's line

abbrev pub whole_num : ℕ → Num
whole_num n = record { neg = false; mant = n; scale = 0 }

-- a number of units, with all its digits, as many of them behind the point as the unit has places
abbrev pub units_num : Unit → ℤ → Num
units_num unit z = record { neg = int_lt z (pos 0); mant = nat_abs z; scale = places_of unit }

abbrev pub motion_number : Kind → ℕ
motion_number Rapid = 0
motion_number Feed = 1
motion_number Dogleg = 0

-- G0 or G1
abbrev pub motion_of : Kind → Word
motion_of kind = record { letter = 71; num = whole_num (motion_number kind) }

-- an axis by its letter, and where a move ends on it
abbrev pub axis_of : Unit → ℕ → ℤ → Word
axis_of unit letter z = record { letter = letter; num = units_num unit z }

-- the motion, and X, Y and Z
abbrev pub move_words : Unit → Move → List Word
move_words unit m = motion_of m.kind ∷ axis_of unit 88 m.to.x ∷ axis_of unit 89 m.to.y ∷ axis_of unit 90 m.to.z ∷ []

-- the line has these words, and isn't too long, nor a `%` alone
pub record IsLine (words : List Word) (line : List ℕ) : Type 0 where
  pub words_are : line_of line ≡ Ok (record { slash = false; numbered = false; words = words })
  pub short : length line ≤ 256
  pub other : is_percent line ≡ false

abbrev pub IsMoveLine : Unit → Move → List ℕ → Type 0
IsMoveLine unit m line = IsLine (move_words unit m) line

-- ---- what they say

-- what a line says that has the words of a move
abbrev move_said : Unit → Kind → Pt3 → Said
move_said unit kind to = record {
  groups = record { letter = 71; number = 1 } ∷ record { letter = 88; number = 0 } ∷ record { letter = 89; number = 0 } ∷ record { letter = 90; number = 0 } ∷ [];
  mode = Some (On kind);
  millimetres = false;
  absolute = false;
  ends = false;
  changes = false;
  spindle = None;
  speed = None;
  rate = None;
  x = Some (units_num unit to.x);
  y = Some (units_num unit to.y);
  z = Some (units_num unit to.z);
}

said_by-move : (unit : Unit) (line : ℕ) (positioned : Bool) (kind : Kind) (from to : Pt3)
    → said_by line positioned (record { slash = false; numbered = false; words = move_words unit (record { kind = kind; from = from; to = to }) }) ≡ Ok (move_said unit (written_as kind) to)
unfolding said_from after_entry entry_of whole_of
said_by-move unit line true Rapid from to = refl
said_by-move unit line true Feed from to = refl
said_by-move unit line true Dogleg from to = refl
said_by-move unit line false Rapid from to = refl
said_by-move unit line false Feed from to = refl
said_by-move unit line false Dogleg from to = refl

-- ---- what they do

-- a program behind its header, with a way to its first place or without, where this is known of the tool's place
abbrev pub known_to : ℤ → Option Pt3 → Known → Unit → Pt3 → Mode → Bool → ℕ → ℕ → Progress
known_to clear begin known unit here mode positioned moves line =
    record { rules = rules_with begin Strict; unit = unit; clear = clear; here = here; known = known; machine = machine_begun; drive = no_drive; mode = mode; millimetres = true; absolute = true; positioned = positioned; frame = Framed; ended = false; moves = moves; line = line }

-- behind that way all of the place is known
abbrev pub known_behind : Option Pt3 → Known
known_behind None = Nothing
known_behind (Some p) = All

abbrev pub going : ℤ → Option Pt3 → Unit → Pt3 → Mode → Bool → ℕ → ℕ → Progress
going clear begin unit here mode positioned moves line = known_to clear begin (known_behind begin) unit here mode positioned moves line

place-known : (begin : Option Pt3) → (if is_some begin then known_behind begin else All) ≡ All
place-known None = refl
place-known (Some p) = refl

pub not_over : (unit : Unit) (n : ℕ) → n ≤ greatest_of unit → nat_lt (greatest_of unit) n ≡ false
not_over unit n fits = grind (arith, nat_tests)

times_one : (n : ℕ) → n * 1 ≡ n
times_one n = omega arith

not_negative : (n : ℕ) → int_lt (pos n) (pos 0) ≡ false
not_negative n = grind (arith, nat_tests)

-- its digits are all on the grid, and stand for it
on_grid-num : (unit : Unit) (z : ℤ) → is_on_grid unit (units_num unit z) ≡ true
on_grid-num Hundredth z = refl
on_grid-num Thousandth z = refl

whole_units-num : (unit : Unit) (z : ℤ) → whole_units unit (units_num unit z) ≡ nat_abs z
whole_units-num Hundredth z = times_one (nat_abs z)
whole_units-num Thousandth z = times_one (nat_abs z)

pub axis_units-num : (unit : Unit) (line : ℕ) (z : ℤ) → Within (greatest_of unit) z → axis_units unit line (units_num unit z) ≡ Ok z
unfolding axis_units
axis_units-num unit line (pos n) fits =
    rw (on_grid-num unit (pos n), whole_units-num unit (pos n), not_over unit n fits.within, not_negative n) refl
axis_units-num unit line (negsuc n) fits =
    rw (on_grid-num unit (negsuc n), whole_units-num unit (negsuc n), not_over unit (suc n) fits.within) refl

room : (moves : ℕ) → moves < MAX_MOVES → nat_le MAX_MOVES moves ≡ false
room moves few = grind (arith, nat_tests)

acted-move : (clear : ℤ) (begin : Option Pt3) (unit : Unit) (here : Pt3) (mode : Mode) (positioned : Bool) (moves line : ℕ) (kind : Kind) (to : Pt3) → IsInUnitRange unit to → moves < MAX_MOVES
    → acted (going clear begin unit here mode positioned moves line) (move_said unit kind to)
    ≡ Ok (going clear begin unit to (On kind) true (moves + 1) line, record { kind = kind; from = here; to = to } ∷ [])
unfolding acted moved target
acted-move clear begin unit here mode positioned moves line kind to fits few =
    rw (place-known begin, axis_units-num unit line to.x fits.x_ok, axis_units-num unit line to.y fits.y_ok, axis_units-num unit line to.z fits.z_ok, room moves few) refl

pub not_long : (n : ℕ) → n ≤ 256 → nat_lt 256 n ≡ false
not_long n short = grind (arith, nat_tests)

-- behind the header, the line of a move makes this move
after_line-move : (clear : ℤ) (begin : Option Pt3) (unit : Unit) (m : Move) (mode : Mode) (positioned : Bool) (moves number : ℕ) (line : List ℕ) → IsInUnitRange unit m.to → moves < MAX_MOVES → IsMoveLine unit m line
    → after_line (going clear begin unit m.from mode positioned moves number) line ≡ Ok (going clear begin unit m.to (On (written_as m.kind)) true (moves + 1) (number + 1), as_written m ∷ [])
unfolding after_line after_words
after_line-move clear begin unit m mode positioned moves number line fits few is_line =
    rw (not_long (length line) is_line.short, is_line.other, is_line.words_are, said_by-move unit (number + 1) positioned m.kind m.from m.to)
    (acted-move clear begin unit m.from mode positioned moves (number + 1) (written_as m.kind) m.to fits few)

-- ---- the program

abbrev pub end_lines : List (List ℕ)
end_lines = codes "M2" ∷ codes "%" ∷ [] ∷ []

-- what a program says behind its header, up to its end
moves_from-end : (clear : ℤ) (begin : Option Pt3) (unit : Unit) (here : Pt3) (mode : Mode) (positioned : Bool) (count number : ℕ) (done : List Move)
    → moves_from (going clear begin unit here mode positioned count number) done end_lines ≡ Ok (done ++ [])
unfolding moves_from after_line after_words line_of read_marks marks_from grown_word finished started said_from after_entry entry_of whole_of acted
moves_from-end clear begin unit here mode true count number done = refl
moves_from-end clear begin unit here mode false count number done = refl

moves_from-move : (clear : ℤ) (begin : Option Pt3) (unit : Unit) (m : Move) (here : Pt3) (mode : Mode) (positioned : Bool) (count number : ℕ) (done : List Move) (line : List ℕ) (lines : List (List ℕ))
    → m.from ≡ here → IsInUnitRange unit m.to → count < MAX_MOVES → IsMoveLine unit m line
    → moves_from (going clear begin unit here mode positioned count number) done (line ∷ lines) ≡ moves_from (going clear begin unit m.to (On (written_as m.kind)) true (count + 1) (number + 1)) (done ++ as_written m ∷ []) lines
unfolding moves_from
moves_from-move clear begin unit m here mode positioned count number done line lines follow fits few is_line =
    rw (← follow, after_line-move clear begin unit m mode positioned count number line fits few is_line) refl

-- the lines of moves that follow on each other, up to the program's end
pub moves_from-moves : (clear : ℤ) (begin : Option Pt3) (unit : Unit) (line : Move → List ℕ) → ((m : Move) → MoveInUnitRange unit m → IsMoveLine unit m (line m))
    → (moves : List Move) (here : Pt3) (mode : Mode) (positioned : Bool) (count number : ℕ) (done : List Move)
    → Follow here moves → MovesInUnitRange unit moves → count + length moves ≤ MAX_MOVES
    → moves_from (going clear begin unit here mode positioned count number) done (map line moves ++ end_lines) ≡ Ok (done ++ map as_written moves)
moves_from-moves clear begin unit line is_line [] here mode positioned count number done follow fits few = moves_from-end clear begin unit here mode positioned count number done
moves_from-moves clear begin unit line is_line (m ∷ moves) here mode positioned count number done follow fits few =
    let first : MoveInUnitRange unit m = fits m (search rules) in
    let others : MovesInUnitRange unit moves = λ n member. fits n (Contains-append_right (m ∷ []) moves n member) in
    moves_from-move clear begin unit m here mode positioned count number done (line m) (map line moves ++ end_lines) follow.0 first.to_ok (omega arith) (is_line m first)
    ∙ moves_from-moves clear begin unit line is_line moves m.to (On (written_as m.kind)) true (count + 1) (number + 1) (done ++ as_written m ∷ []) follow.1 others (omega arith)
    ∙ ap (λ (ms : List Move). Ok ms) (append_assoc done (as_written m ∷ []) (map as_written moves))

-- behind the header nothing is known yet of the tool's place, where it may be anywhere
pub moves_from-header : (begin : Option Pt3) (unit : Unit) (start : Pt3) (lines : List (List ℕ))
    → moves_from (start_at start unit (rules_with begin Strict)) [] (codes "%" ∷ codes "G17 G21 G90" ∷ lines) ≡ moves_from (known_to start.z begin Nothing unit start Off false 0 2) [] lines
unfolding moves_from after_line after_words line_of read_marks marks_from grown_word finished started said_from after_entry entry_of whole_of acted
moves_from-header begin unit start lines = refl
