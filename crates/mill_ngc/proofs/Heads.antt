-- The way to a program's first place, and so the whole program: its lines mean the moves of that way and its own.
use Rattle.std.proofs.Common.{◌≡◌, ℕ, ◌+◌, ◌*◌, ◌^◌, ◌≤◌, true, false, List, [], ◌∷◌, ◌++◌, length, map, arith, rules, Option, Some, None, Ok, refl, ap, ◌∙◌}
use Rattle.std.specs.Prelude.{ℤ, pos, negsuc, nat_abs, int_lt, int_le, ◌*ℤ◌, codes}
use Rattle.std.proofs.lemmas.Bool.Decides.{nat_tests}
use Rattle.std.proofs.lemmas.List.Elements.{Contains-append_right}
use Rattle.mill_base.specs.Motion.{Follow}
use Rattle.mill_base.specs.Ranges.{IsInUnitRange, MoveInUnitRange, MovesInUnitRange}
use Rattle.mill_base.specs.Units.{places_of}
use Rattle.mill_base.specs.declared.limits.TheConstants.{MAX_MOVES}
use Rattle.mill_base.specs.declared.motion.Kind.TheVariants.{Rapid}
use Rattle.mill_base.specs.declared.motion.Move.{Move}
use Rattle.mill_base.specs.declared.points.Pt3.{Pt3}
use Rattle.mill_base.specs.declared.unit.Unit.{Unit}
use Rattle.mill_words.specs.declared.word.Word.{Word}
use Rattle.mill_block.proofs.RiseLemmas.{signed-times}
use Rattle.mill_block.specs.Lines.{after_line, after_words}
use Rattle.mill_block.specs.Motion.{acted, moved, target}
use Rattle.mill_said.specs.Numbers.{is_at_or_over, signed, whole_of}
use Rattle.mill_said.specs.Profile.{entry_of}
use Rattle.mill_said.specs.Said.{after_entry, said_by, said_from}
use Rattle.mill_said.specs.declared.profile.Mode.TheVariants.{Off, On}
use Rattle.mill_block.specs.declared.progress.Known.TheVariants.{Nothing, Height}
use Rattle.mill_said.specs.declared.said.Said.{Said}
use Rattle.mill_ngc.specs.Programs.{lines_of, moves_from, program_of}
use Rattle.mill_ngc.specs.Readings.{rules_with}
use Rattle.mill_said.specs.declared.rules.Words.TheVariants.{Strict}
use Rattle.mill_ngc.specs.Writing.{as_written, head_moves, stay}
use Rattle.mill_ngc.proofs.MoveLines.{IsLine, IsMoveLine, axis_of, axis_units-num, end_lines, going, known_to, motion_of, moves_from-header, moves_from-moves, not_long, units_num}

-- ---- the words

-- straight up: G0 and Z
abbrev pub up_words : Unit → Pt3 → List Word
up_words unit p = motion_of Rapid ∷ axis_of unit 90 p.z ∷ []

-- across: G0, X and Y
abbrev pub across_words : Unit → Pt3 → List Word
across_words unit p = motion_of Rapid ∷ axis_of unit 88 p.x ∷ axis_of unit 89 p.y ∷ []

-- ---- what they say

up_said : Unit → Pt3 → Said
up_said unit p = record {
  groups = record { letter = 71; number = 1 } ∷ record { letter = 90; number = 0 } ∷ [];
  mode = Some (On Rapid);
  millimetres = false;
  absolute = false;
  ends = false;
  changes = false;
  spindle = None;
  speed = None;
  rate = None;
  x = None;
  y = None;
  z = Some (units_num unit p.z);
}

across_said : Unit → Pt3 → Said
across_said unit p = record {
  groups = record { letter = 71; number = 1 } ∷ record { letter = 88; number = 0 } ∷ record { letter = 89; number = 0 } ∷ [];
  mode = Some (On Rapid);
  millimetres = false;
  absolute = false;
  ends = false;
  changes = false;
  spindle = None;
  speed = None;
  rate = None;
  x = Some (units_num unit p.x);
  y = Some (units_num unit p.y);
  z = None;
}

said_by-up : (unit : Unit) (line : ℕ) (p : Pt3) → said_by line false (record { slash = false; numbered = false; words = up_words unit p }) ≡ Ok (up_said unit p)
unfolding up_said said_from after_entry entry_of whole_of
said_by-up unit line p = refl

said_by-across : (unit : Unit) (line : ℕ) (p : Pt3) → said_by line true (record { slash = false; numbered = false; words = across_words unit p }) ≡ Ok (across_said unit p)
unfolding across_said said_from after_entry entry_of whole_of
said_by-across unit line p = refl

-- ---- what they do

-- the height that is written is reached
signed_abs : (z : ℤ) → signed (int_lt z (pos 0)) (nat_abs z) ≡ z
signed_abs (pos n) =
    let positive : int_lt (pos n) (pos 0) ≡ false = grind (arith, nat_tests) in
    rw positive refl
signed_abs (negsuc n) = refl

at_itself : (z : ℤ) → int_le z z ≡ true
at_itself (pos n) = grind (arith, nat_tests)
at_itself (negsuc n) = grind (arith, nat_tests)

reaches-num : (unit : Unit) (z : ℤ) → is_at_or_over unit z (units_num unit z) ≡ true
reaches-num unit z =
    let parts : signed (int_lt z (pos 0)) (nat_abs z * 10 ^ places_of unit) ≡ z *ℤ pos (10 ^ places_of unit) =
    signed-times (int_lt z (pos 0)) (nat_abs z) (10 ^ places_of unit) ∙ ap (λ (w : ℤ). w *ℤ pos (10 ^ places_of unit)) (signed_abs z) in
    rw parts (at_itself (z *ℤ pos (10 ^ places_of unit)))

acted-up : (unit : Unit) (p : Pt3) (line : ℕ) → IsInUnitRange unit p
    → acted (known_to p.z (Some p) Nothing unit p Off false 0 line) (up_said unit p) ≡ Ok (known_to p.z (Some p) Height unit p (On Rapid) true 0 line, [])
unfolding up_said acted moved target
acted-up unit p line fits = rw (reaches-num unit p.z, axis_units-num unit line p.z fits.z_ok) refl

acted-across : (unit : Unit) (p : Pt3) (line : ℕ) → IsInUnitRange unit p
    → acted (known_to p.z (Some p) Height unit p (On Rapid) true 0 line) (across_said unit p) ≡ Ok (going p.z (Some p) unit p (On Rapid) true 2 line, head_moves (Some p))
unfolding across_said acted moved target
acted-across unit p line fits = rw (axis_units-num unit line p.x fits.x_ok, axis_units-num unit line p.y fits.y_ok) refl

after_line-up : (unit : Unit) (p : Pt3) (number : ℕ) (line : List ℕ) → IsInUnitRange unit p → IsLine (up_words unit p) line
    → after_line (known_to p.z (Some p) Nothing unit p Off false 0 number) line ≡ Ok (known_to p.z (Some p) Height unit p (On Rapid) true 0 (number + 1), [])
unfolding after_line after_words
after_line-up unit p number line fits is_line =
    rw (not_long (length line) is_line.short, is_line.other, is_line.words_are, said_by-up unit (number + 1) p) (acted-up unit p (number + 1) fits)

after_line-across : (unit : Unit) (p : Pt3) (number : ℕ) (line : List ℕ) → IsInUnitRange unit p → IsLine (across_words unit p) line
    → after_line (known_to p.z (Some p) Height unit p (On Rapid) true 0 number) line ≡ Ok (going p.z (Some p) unit p (On Rapid) true 2 (number + 1), head_moves (Some p))
unfolding after_line after_words
after_line-across unit p number line fits is_line =
    rw (not_long (length line) is_line.short, is_line.other, is_line.words_are, said_by-across unit (number + 1) p) (acted-across unit p (number + 1) fits)

-- both lines make a move of length 0 each, at the place that they lead to
moves_from-head : (unit : Unit) (p : Pt3) (number : ℕ) (up across : List ℕ) (lines : List (List ℕ)) → IsInUnitRange unit p → IsLine (up_words unit p) up → IsLine (across_words unit p) across
    → moves_from (known_to p.z (Some p) Nothing unit p Off false 0 number) [] (up ∷ across ∷ lines) ≡ moves_from (going p.z (Some p) unit p (On Rapid) true 2 (number + 1 + 1)) (head_moves (Some p)) lines
unfolding moves_from
moves_from-head unit p number up across lines fits is_up is_across =
    rw (after_line-up unit p number up fits is_up, after_line-across unit p (number + 1) across fits is_across) refl

-- ---- the program

-- these are the lines of the way to the first place
abbrev pub AreHead : Unit → Option Pt3 → List (List ℕ) → Type 0
AreHead unit None lines = lines ≡ []
AreHead unit (Some p) (up ∷ across ∷ []) = IsLine (up_words unit p) up × IsLine (across_words unit p) across
AreHead unit (Some p) lines = ⊥

-- behind the way to the first place come the moves of the program's own
moves_from-begun : (unit : Unit) (line : Move → List ℕ) → ((m : Move) → MoveInUnitRange unit m → IsMoveLine unit m (line m))
    → (begin : Option Pt3) (start : Pt3) (moves : List Move) (head : List (List ℕ)) → AreHead unit begin head
    → Follow start (head_moves begin ++ moves) → MovesInUnitRange unit (head_moves begin ++ moves) → length (head_moves begin ++ moves) ≤ MAX_MOVES
    → moves_from (known_to start.z begin Nothing unit start Off false 0 2) [] (head ++ (map line moves ++ end_lines)) ≡ Ok (head_moves begin ++ map as_written moves)
moves_from-begun unit line is_line None start moves head is_head follow fits few =
    rw is_head (moves_from-moves start.z None unit line is_line moves start Off false 0 2 [] follow fits (omega arith))
moves_from-begun unit line is_line (Some p) start moves (up ∷ across ∷ []) is_head follow fits few =
    let first : IsInUnitRange unit p = (fits (stay p) (search rules)).to_ok in
    let others : MovesInUnitRange unit moves = λ n member. fits n (Contains-append_right (stay p ∷ stay p ∷ []) moves n member) in
    rw (← follow.0) (moves_from-head unit p 2 up across (map line moves ++ end_lines) first is_head.0 is_head.1
    ∙ moves_from-moves p.z (Some p) unit line is_line moves p (On Rapid) true 2 (2 + 1 + 1) (head_moves (Some p)) follow.1.1 others (omega arith))
moves_from-begun unit line is_line (Some p) start moves [] is_head follow fits few = absurd is_head
moves_from-begun unit line is_line (Some p) start moves (up ∷ []) is_head follow fits few = absurd is_head
moves_from-begun unit line is_line (Some p) start moves (up ∷ across ∷ other ∷ more) is_head follow fits few = absurd is_head

-- the moves of the way to the first place are straight rapids
head-written : (begin : Option Pt3) (moves : List Move) → head_moves begin ++ map as_written moves ≡ map as_written (head_moves begin ++ moves)
head-written None moves = refl
head-written (Some p) moves = refl

-- a program of these lines means the moves, which follow on each other from the start
pub program_of-moves : (unit : Unit) (line : Move → List ℕ) → ((m : Move) → MoveInUnitRange unit m → IsMoveLine unit m (line m))
    → (begin : Option Pt3) (start : Pt3) (moves : List Move) (head : List (List ℕ)) (text : List ℕ) → AreHead unit begin head
    → Follow start (head_moves begin ++ moves) → MovesInUnitRange unit (head_moves begin ++ moves) → length (head_moves begin ++ moves) ≤ MAX_MOVES
    → lines_of text ≡ codes "%" ∷ codes "G17 G21 G90" ∷ (head ++ (map line moves ++ end_lines)) → program_of start unit (rules_with begin Strict) text ≡ Ok (map as_written (head_moves begin ++ moves))
unfolding program_of
program_of-moves unit line is_line begin start moves head text is_head follow fits few lines =
    rw lines (moves_from-header begin unit start (head ++ (map line moves ++ end_lines)) ∙ moves_from-begun unit line is_line begin start moves head is_head follow fits few ∙ ap (λ (ms : List Move). Ok ms) (head-written begin moves))
