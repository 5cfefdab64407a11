-- To a program for a machine, too, the lines of moves mean these moves, behind the way to their first place.
use Rattle.std.proofs.Common.{◌≡◌, ℕ, ◌+◌, ◌*◌, ◌^◌, ◌≤◌, ◌<◌, ◌/◌, ◌%◌, suc, Bool, true, false, List, [], ◌∷◌, ◌++◌, length, map, arith, rules, Option, Some, None, Result, Ok, Err, refl, sym, ap, ◌∙◌, append_assoc, subst}
use Rattle.mill_words.specs.Words.{FitsNum}
use Rattle.std.specs.Prelude.{⊤, ℤ, ◌+ℤ◌, ◌-ℤ◌, ◌*ℤ◌, pos, negsuc, nat_abs, int_le, int_lt, nat_lt, nat_le, codes, not, ◌&&◌, ◌||◌, if◌then◌else◌}
use Rattle.std.proofs.Math.Nat.{div-eq_of_lt-le, mul-mod_left}
use Rattle.std.proofs.lemmas.Bool.Decides.{nat_tests}
use Rattle.std.proofs.lemmas.Int.{ints}
use Rattle.std.proofs.lemmas.List.Elements.{Contains-append_right}
use Rattle.mill_base.specs.Numbers.{Within}
use Rattle.mill_base.specs.Units.{places_of, greatest_of}
use Rattle.mill_base.specs.declared.limits.TheConstants.{MAX_MOVES}
use Rattle.mill_base.specs.declared.unit.Unit.{Unit}
use Rattle.mill_base.specs.declared.unit.Unit.TheVariants.{Hundredth, Thousandth}
use Rattle.mill_base.specs.Ranges.{IsInUnitRange, MoveInUnitRange, MovesInUnitRange}
use Rattle.mill_base.specs.Motion.{Follow}
use Rattle.mill_base.specs.declared.points.Pt3.{Pt3}
use Rattle.mill_base.specs.declared.motion.Kind.{Kind}
use Rattle.mill_base.specs.declared.motion.Kind.TheVariants.{Rapid, Feed, Dogleg}
use Rattle.mill_base.specs.declared.motion.Move.{Move}
use Rattle.mill_words.specs.Marks.{marks_from}
use Rattle.mill_words.specs.Lines.{grown_word, finished, started, read_marks, line_of}
use Rattle.mill_control.specs.Lengths.{is_whole, per, rounded}
use Rattle.mill_control.specs.Offsets.{first_offsets, named}
use Rattle.mill_control.specs.Places.{allows, behind, nowhere}
use Rattle.mill_control.specs.declared.lengths.LengthUnit.TheVariants.{Millimetres}
use Rattle.mill_control.specs.declared.place.Height.TheVariants.{Known as Sure}
use Rattle.mill_control.specs.declared.place.Naming.{Naming}
use Rattle.mill_control.specs.declared.place.Place.{Place}
use Rattle.mill_said.specs.declared.before.Before.{Before}
use Rattle.mill_said.specs.declared.fault.NgcFault.{NgcFault}
use Rattle.mill_said.specs.declared.fault.NgcFault.TheVariants as fault
use Rattle.mill_block.specs.declared.machine.Machine.{Machine}
use Rattle.mill_said.specs.declared.machine_said.MachineSaid.{MachineSaid}
use Rattle.mill_said.specs.declared.machine_said.Motion.TheVariants.{Goes}
use Rattle.mill_said.specs.declared.profile.Mode.{Mode}
use Rattle.mill_said.specs.declared.profile.Mode.TheVariants.{Off, On}
use Rattle.mill_block.specs.declared.progress.Frame.TheVariants.{Framed}
use Rattle.mill_block.specs.declared.progress.Known.{Known}
use Rattle.mill_block.specs.declared.progress.Known.TheVariants.{Nothing, All}
use Rattle.mill_block.specs.declared.progress.Progress.{Progress}
use Rattle.mill_said.specs.declared.rules.Control.{Control}
use Rattle.mill_said.specs.declared.rules.Words.TheVariants.{Machine as MachineWords}
use Rattle.mill_block.specs.Drives.{no_drive}
use Rattle.mill_block.specs.Lines.{after_words, after_line, is_percent, settled_before, start_at}
use Rattle.mill_control.specs.Unrounded.{parts, text_units}
use Rattle.mill_block.proofs.TextLemmas.{number_near}
use Rattle.mill_block.specs.declared.machine.Finer.{Finer}
use Rattle.mill_block.specs.MachineLines.{Done, exact_to, exactly, acts_by, gone_to, machine_acted, machine_behind, machine_done, names_by, naming_of, target_for, units_for, with_place, with_stop}
use Rattle.mill_said.specs.MachineSaid.{nothing_told, told_from, told_line, told_row}
use Rattle.mill_block.specs.MachineSettings.{machine_begun, nothing_finer, settled_for}
use Rattle.mill_said.specs.MachineTable.{row_of, tenths_of}
use Rattle.mill_said.specs.Numbers.{whole_of}
use Rattle.mill_said.specs.Said.{◌>>=◌}
use Rattle.mill_ngc.specs.Programs.{lines_of, moves_from, program_of}
use Rattle.mill_ngc.specs.Readings.{rules_with}
use Rattle.mill_ngc.specs.Writing.{as_written, head_moves, stay, written_as}
use Rattle.mill_ngc.proofs.Heads.{AreHead, across_words, up_words}
use Rattle.mill_ngc.proofs.MoveLines.{IsLine, IsMoveLine, end_lines, move_words, not_long, not_over, units_num}

-- ---- what is settled

-- behind the way up its height is known, under the first length
machine_up : Machine
machine_up = record machine_begun { place = record { across = false; height = Sure }; named = record { height = Some first_offsets; across = None }; waiting = 1 }

-- behind the way across all of the place is
machine_there : Machine
machine_there = record machine_begun { place = record { across = true; height = Sure }; named = record { height = Some first_offsets; across = Some 0 }; has_named = true }

abbrev running : Control → ℤ → Known → Machine → Unit → Pt3 → Mode → Bool → ℕ → ℕ → Progress
running c clear known machine unit here mode positioned moves line =
    record { rules = record { from_anywhere = true; needs_spindle = false; words = MachineWords c }; unit = unit; clear = clear; here = here; known = known; machine = machine; drive = no_drive; mode = mode; millimetres = true; absolute = true; positioned = positioned; frame = Framed; ended = false; moves = moves; line = line }

-- ---- what lines say

move_told : Unit → Kind → Pt3 → MachineSaid
move_told unit kind to = record nothing_told {
  begun = true;
  groups = record { letter = 71; number = 1 } ∷ record { letter = 88; number = 0 } ∷ record { letter = 89; number = 0 } ∷ record { letter = 90; number = 0 } ∷ [];
  motion = Some (Goes kind);
  x = Some (units_num unit to.x);
  y = Some (units_num unit to.y);
  z = Some (units_num unit to.z);
}

up_told : Unit → Pt3 → MachineSaid
up_told unit p = record nothing_told {
  begun = true;
  groups = record { letter = 71; number = 1 } ∷ record { letter = 90; number = 0 } ∷ [];
  motion = Some (Goes Rapid);
  z = Some (units_num unit p.z);
}

across_told : Unit → Pt3 → MachineSaid
across_told unit p = record nothing_told {
  begun = true;
  groups = record { letter = 71; number = 1 } ∷ record { letter = 88; number = 0 } ∷ record { letter = 89; number = 0 } ∷ [];
  motion = Some (Goes Rapid);
  x = Some (units_num unit p.x);
  y = Some (units_num unit p.y);
}

told_line-move : (c : Control) (p : Before) (unit : Unit) (kind : Kind) (from to : Pt3)
    → told_line c p (record { slash = false; numbered = false; words = move_words unit (record { kind = kind; from = from; to = to }) }) ≡ Ok (move_told unit (written_as kind) to)
unfolding move_told told_from told_row row_of tenths_of whole_of
told_line-move c p unit Rapid from to = refl
told_line-move c p unit Feed from to = refl
told_line-move c p unit Dogleg from to = refl

told_line-up : (c : Control) (p : Before) (unit : Unit) (at : Pt3) → told_line c p (record { slash = false; numbered = false; words = up_words unit at }) ≡ Ok (up_told unit at)
unfolding up_told told_from told_row row_of tenths_of whole_of
told_line-up c p unit at = refl

told_line-across : (c : Control) (p : Before) (unit : Unit) (at : Pt3) → told_line c p (record { slash = false; numbered = false; words = across_words unit at }) ≡ Ok (across_told unit at)
unfolding across_told told_from told_row row_of tenths_of whole_of
told_line-across c p unit at = refl

-- ---- numbers

tens : (unit : Unit) → 1 ≤ 10 ^ places_of unit
tens Hundredth = omega arith
tens Thousandth = omega arith

no-rest : (m k : ℕ) → 1 ≤ k → (m * k) % k ≡ 0
no-rest m k some = mul-mod_left m k

-- all its digits are on the grid
whole-num : (unit : Unit) (z : ℤ) → is_whole (per Millimetres unit) (units_num unit z) ≡ true
unfolding is_whole
whole-num unit z = rw (no-rest (nat_abs z) (10 ^ places_of unit) (tens unit)) refl

halves : (m k : ℕ) → 1 ≤ k → (2 * (m * k) + k) / (2 * k) ≡ m
halves m k some = div-eq_of_lt-le {k = m} (2 * k) {m = 2 * (m * k) + k} (omega arith) (omega arith)

-- and stand for it
rounded-num : (unit : Unit) (z : ℤ) → rounded (per Millimetres unit) (units_num unit z) ≡ z
unfolding rounded
rounded-num unit (pos n) =
    let positive : int_lt (pos n) (pos 0) ≡ false = grind (arith, nat_tests) in
    rw (positive, halves n (10 ^ places_of unit) (tens unit)) refl
rounded-num unit (negsuc n) = rw (halves (suc n) (10 ^ places_of unit) (tens unit)) refl

-- and it has nothing finer
few-digits : (unit : Unit) (z : ℤ) → Within (greatest_of unit) z → FitsNum 18 (units_num unit z)
few-digits Hundredth z fits = record { mant = omega (arith, fits.within); scale = omega arith }
few-digits Thousandth z fits = record { mant = omega (arith, fits.within); scale = omega arith }

exact-num : (unit : Unit) (z : ℤ) → Within (greatest_of unit) z → (text_units (per Millimetres unit) (units_num unit z) -ℤ (parts *ℤ z)) ≡ pos 0
exact-num unit z fits =
    none (text_units (per Millimetres unit) (units_num unit z)) (parts *ℤ z)
    (subst (λ (r : ℤ). 2 * nat_abs (text_units (per Millimetres unit) (units_num unit z) -ℤ (parts *ℤ r)) ≤ 0) (rounded-num unit z)
    (number_near false (per Millimetres unit) (units_num unit z) (few-digits unit z fits) (whole-num unit z)))
  where
    none : (a b : ℤ) → 2 * nat_abs (a -ℤ b) ≤ 0 → (a -ℤ b) ≡ pos 0
    none a b h = omega (arith, ints)

exact-here : (z : ℤ) → (((parts *ℤ z) +ℤ pos 0) -ℤ (parts *ℤ z)) ≡ pos 0
exact-here z = by (parts *ℤ z)
  where
    by : (a : ℤ) → ((a +ℤ pos 0) -ℤ a) ≡ pos 0
    by a = omega (arith, ints)

finer-by : (x y z : ℤ) → x ≡ pos 0 → y ≡ pos 0 → z ≡ pos 0 → record { x = x; y = y; z = z } ≡ nothing_finer
finer-by x y z i j k = rw (i, j, k) refl

either : (b : Bool) → (b || true) ≡ true
either true = refl
either false = refl

not_above : (g n : ℕ) → n ≤ g → nat_lt g n ≡ false
not_above g n fits = grind (arith, nat_tests)

chosen : (fine : Bool) (g : ℕ) (w z : ℤ) (e f : NgcFault) → fine ≡ true → w ≡ z → nat_abs z ≤ g → (if not fine then Err e else (if nat_lt g (nat_abs w) then Err f else Ok w)) ≡ Ok z
chosen fine g w z e f is at fits = rw (is, at, not_above g (nat_abs z) fits) refl

units_for-num : (c : Control) (p : Progress) (m : Machine) (unit : Unit) (z : ℤ) → Within (greatest_of unit) z
    → units_for c (record p { unit = unit; machine = record m { inches = false } }) (units_num unit z) ≡ Ok z
units_for-num c p m unit z fits =
    chosen (c.rounds || is_whole (per Millimetres unit) (units_num unit z)) (greatest_of unit) (rounded (per Millimetres unit) (units_num unit z)) z (fault.OffGrid p.line) (fault.OutOfRange p.line)
    (ap (λ (b : Bool). c.rounds || b) (whole-num unit z) ∙ either c.rounds) (rounded-num unit z) fits.within

-- ---- what is settled behind a line

settled-move : (c : Control) (clear : ℤ) (unit : Unit) (here : Pt3) (mode : Mode) (positioned : Bool) (moves line : ℕ) (kind : Kind) (to : Pt3)
    → settled_for c (running c clear All machine_there unit here mode positioned moves line) (move_told unit kind to) ≡ running c clear All machine_there unit here (On kind) positioned moves line
unfolding settled_for move_told machine_there
settled-move c clear unit here mode positioned moves line kind to = by c.one_length c.change_raises
  where
    by : (one raises : Bool)
        → settled_for (record c { one_length = one; change_raises = raises }) (running c clear All machine_there unit here mode positioned moves line) (move_told unit kind to)
        ≡ running c clear All machine_there unit here (On kind) positioned moves line
    by true true = refl
    by true false = refl
    by false true = refl
    by false false = refl

settled-up : (c : Control) (clear : ℤ) (unit : Unit) (here p : Pt3) (line : ℕ)
    → settled_for c (running c clear Nothing machine_begun unit here Off false 0 line) (up_told unit p) ≡ running c clear Nothing machine_begun unit here (On Rapid) false 0 line
unfolding settled_for up_told
settled-up c clear unit here p line = by c.one_length c.change_raises
  where
    by : (one raises : Bool)
        → settled_for (record c { one_length = one; change_raises = raises }) (running c clear Nothing machine_begun unit here Off false 0 line) (up_told unit p)
        ≡ running c clear Nothing machine_begun unit here (On Rapid) false 0 line
    by true true = refl
    by true false = refl
    by false true = refl
    by false false = refl

settled-across : (c : Control) (clear : ℤ) (unit : Unit) (here p : Pt3) (line : ℕ)
    → settled_for c (running c clear Nothing machine_up unit here (On Rapid) true 0 line) (across_told unit p) ≡ running c clear Nothing machine_up unit here (On Rapid) true 0 line
unfolding settled_for across_told machine_up
settled-across c clear unit here p line = by c.one_length c.change_raises
  where
    by : (one raises : Bool)
        → settled_for (record c { one_length = one; change_raises = raises }) (running c clear Nothing machine_up unit here (On Rapid) true 0 line) (across_told unit p)
        ≡ running c clear Nothing machine_up unit here (On Rapid) true 0 line
    by true true = refl
    by true false = refl
    by false true = refl
    by false false = refl

-- ---- where lines lead

-- where all is known, every line may come that drills no hole
allows-known : (rapid x y : Bool) (z : Option Bool) → allows (record { across = true; height = Sure }) (record { rapid = rapid; needs_place = false; x = x; y = y; z = z }) ≡ true
allows-known rapid x y None = refl
allows-known rapid x y (Some true) = refl
allows-known rapid x y (Some false) = refl

both_ok : {A B C : Type 0} (x : A) (y : B) (z : C) (a : Result A NgcFault) (b : Result B NgcFault) (d : Result C NgcFault) (f : A → B → C → Result Pt3 NgcFault)
    → a ≡ Ok x → b ≡ Ok y → d ≡ Ok z → (a >>= λ u. b >>= λ v. d >>= λ w. f u v w) ≡ f x y z
both_ok x y z a b d f i j k = rw (i, j, k) refl

target-move : (c : Control) (p : Progress) (m : Machine) (unit : Unit) (kind : Kind) (to : Pt3) → IsInUnitRange unit to
    → target_for c (record p { unit = unit; machine = record m { inches = false } }) (move_told unit kind to) ≡ Ok to
unfolding target_for move_told
target-move c p m unit kind to fits =
    let q : Progress = record p { unit = unit; machine = record m { inches = false } } in
    both_ok to.x to.y to.z (units_for c q (units_num unit to.x)) (units_for c q (units_num unit to.y)) (units_for c q (units_num unit to.z)) (λ x y z. Ok (record { x = x; y = y; z = z }))
    (units_for-num c p m unit to.x fits.x_ok) (units_for-num c p m unit to.y fits.y_ok) (units_for-num c p m unit to.z fits.z_ok)

-- the checks before a line acts
all-passed : (may : Bool) (a b done : Done) → may ≡ true → (if false then a else (if not may then b else done)) ≡ done
all-passed may a b done is = rw is refl

room : (moves : ℕ) → moves < MAX_MOVES → nat_le MAX_MOVES moves ≡ false
room moves few = grind (arith, nat_tests)

made-move : (c : Control) (clear : ℤ) (unit : Unit) (here to : Pt3) (kind : Kind) (positioned : Bool) (moves line : ℕ) → moves < MAX_MOVES
    → gone_to All (running c clear All machine_there unit here (On kind) positioned moves line) kind true to
    ≡ Ok (running c clear All machine_there unit to (On kind) true (moves + 1) line, record { kind = kind; from = here; to = to } ∷ [])
made-move c clear unit here to kind positioned moves line few = rw (room moves few) refl

acts-move : (c : Control) (clear : ℤ) (unit : Unit) (here : Pt3) (positioned : Bool) (moves line : ℕ) (kind : Kind) (to : Pt3) → IsInUnitRange unit to → moves < MAX_MOVES
    → acts_by c (running c clear All machine_there unit here (On kind) positioned moves line) (move_told unit kind to) (On kind) None None
    ≡ Ok (running c clear All machine_there unit to (On kind) true (moves + 1) line, record { kind = kind; from = here; to = to } ∷ [])
unfolding move_told machine_there
acts-move c clear unit here positioned moves line kind to fits few =
    let p : Progress = running c clear All machine_there unit here (On kind) positioned moves line in
    ap (λ (t : Result Pt3 NgcFault). t >>= λ at. gone_to All p kind true at) (target-move c p machine_there unit kind to fits)
    ∙ made-move c clear unit here to kind positioned moves line few

named-move : (c : Control) (clear : ℤ) (unit : Unit) (here : Pt3) (positioned : Bool) (moves line : ℕ) (kind : Kind) (to : Pt3) → IsInUnitRange unit to → moves < MAX_MOVES
    → names_by c (running c clear All machine_there unit here (On kind) positioned moves line) (move_told unit kind to)
    ≡ Ok (running c clear All machine_there unit to (On kind) true (moves + 1) line, record { kind = kind; from = here; to = to } ∷ [])
unfolding names_by move_told machine_there
named-move c clear unit here positioned moves line kind to fits few =
    let p : Progress = running c clear All machine_there unit here (On kind) positioned moves line in
    let s : MachineSaid = move_told unit kind to in
    let n : Naming = naming_of p s in
    all-passed (allows (record { across = true; height = Sure }) n) (Err (fault.LateTool line)) (Err (fault.Start line))
    (acts_by c p s (On kind) None None >>= λ done. Ok (exactly (exact_to p s None) (with_place (machine_behind p s) done))) (allows-known n.rapid n.x n.y n.z)
    ∙ ap (λ (d : Done). d >>= λ done. Ok (exactly (exact_to p s None) (with_place (machine_behind p s) done))) (acts-move c clear unit here positioned moves line kind to fits few)
    ∙ ap (λ (f : Finer). Ok (running c clear All (record machine_there { finer = f }) unit to (On kind) true (moves + 1) line, record { kind = kind; from = here; to = to } ∷ []))
    (finer-by (text_units (per Millimetres unit) (units_num unit to.x) -ℤ (parts *ℤ to.x)) (text_units (per Millimetres unit) (units_num unit to.y) -ℤ (parts *ℤ to.y)) (text_units (per Millimetres unit) (units_num unit to.z) -ℤ (parts *ℤ to.z))
    (exact-num unit to.x fits.x_ok) (exact-num unit to.y fits.y_ok) (exact-num unit to.z fits.z_ok))

machine-move : (c : Control) (clear : ℤ) (unit : Unit) (here : Pt3) (mode : Mode) (positioned : Bool) (moves line : ℕ) (kind : Kind) (to : Pt3) → IsInUnitRange unit to → moves < MAX_MOVES
    → machine_acted c (running c clear All machine_there unit here mode positioned moves line) (move_told unit kind to)
    ≡ Ok (running c clear All machine_there unit to (On kind) true (moves + 1) line, record { kind = kind; from = here; to = to } ∷ [])
unfolding machine_acted move_told
machine-move c clear unit here mode positioned moves line kind to fits few =
    let s : MachineSaid = move_told unit kind to in
    ap (λ (p : Progress). machine_done c p s >>= λ done. Ok (with_stop false done)) (settled-move c clear unit here mode positioned moves line kind to)
    ∙ ap (λ (d : Done). d >>= λ done. Ok (with_stop false done)) (named-move c clear unit here positioned moves line kind to fits few)

-- ---- the way to the first place

at-itself : (z : ℤ) → int_le z z ≡ true
at-itself (pos n) = grind (arith, nat_tests)
at-itself (negsuc n) = grind (arith, nat_tests)

-- a rapid straight up to a height may come first, where that is the safe one
up_naming : Bool → Naming
up_naming over = record { rapid = true; needs_place = false; x = false; y = false; z = Some over }

behind_up : Bool → Machine → Machine
behind_up over m = record m { place = behind nowhere (up_naming over); named = named m.named m.offsets true false; has_named = m.has_named || not over }

target-up : (c : Control) (p : Progress) (m : Machine) (unit : Unit) (at : Pt3) → IsInUnitRange unit at
    → target_for c (record p { unit = unit; here = at; machine = record m { inches = false } }) (up_told unit at) ≡ Ok at
unfolding target_for up_told
target-up c p m unit at fits =
    let q : Progress = record p { unit = unit; here = at; machine = record m { inches = false } } in
    both_ok at.x at.y at.z (Ok at.x) (Ok at.y) (units_for c q (units_num unit at.z)) (λ x y z. Ok (record { x = x; y = y; z = z })) refl refl (units_for-num c (record p { here = at }) m unit at.z fits.z_ok)

named-up : (c : Control) (unit : Unit) (p : Pt3) (line : ℕ) → IsInUnitRange unit p
    → names_by c (running c p.z Nothing machine_begun unit p (On Rapid) false 0 line) (up_told unit p) ≡ Ok (running c p.z Nothing machine_up unit p (On Rapid) true 0 line, [])
unfolding names_by up_told machine_up up_naming behind_up
named-up c unit p line fits =
    by (int_le p.z (rounded (per Millimetres unit) (units_num unit p.z))) (target_for c (running c p.z Nothing machine_begun unit p (On Rapid) false 0 line) (up_told unit p))
    (ap (λ (z : ℤ). int_le p.z z) (rounded-num unit p.z) ∙ at-itself p.z) (target-up c (running c p.z Nothing machine_begun unit p (On Rapid) false 0 line) machine_begun unit p fits)
    ∙ ap (λ (f : Finer). Ok (running c p.z Nothing (record machine_up { finer = f }) unit p (On Rapid) true 0 line, []))
    (finer-by (((parts *ℤ p.x) +ℤ pos 0) -ℤ (parts *ℤ p.x)) (((parts *ℤ p.y) +ℤ pos 0) -ℤ (parts *ℤ p.y)) (text_units (per Millimetres unit) (units_num unit p.z) -ℤ (parts *ℤ p.z))
    (exact-here p.x) (exact-here p.y) (exact-num unit p.z fits.z_ok))
  where
    up : Pt3
    up = record { x = (parts *ℤ p.x) +ℤ pos 0; y = (parts *ℤ p.y) +ℤ pos 0; z = text_units (per Millimetres unit) (units_num unit p.z) }

    behind-it : Machine
    behind-it = record machine_up { finer = record { x = up.x -ℤ (parts *ℤ p.x); y = up.y -ℤ (parts *ℤ p.y); z = up.z -ℤ (parts *ℤ p.z) } }

    by : (over : Bool) (t : Result Pt3 NgcFault) → over ≡ true → t ≡ Ok p
        → (if not (allows nowhere (up_naming over)) then Err (fault.Start line) else
        ((t >>= λ to. gone_to Nothing (running c p.z Nothing machine_begun unit p (On Rapid) false 0 line) Rapid false to) >>= λ done. Ok (exactly up (with_place (behind_up over) done))))
        ≡ Ok (running c p.z Nothing behind-it unit p (On Rapid) true 0 line, [])
    by over t is leads = rw (is, leads) refl

machine-up : (c : Control) (unit : Unit) (p : Pt3) (line : ℕ) → IsInUnitRange unit p
    → machine_acted c (running c p.z Nothing machine_begun unit p Off false 0 line) (up_told unit p) ≡ Ok (running c p.z Nothing machine_up unit p (On Rapid) true 0 line, [])
unfolding machine_acted up_told
machine-up c unit p line fits =
    ap (λ (q : Progress). machine_done c q (up_told unit p) >>= λ done. Ok (with_stop false done)) (settled-up c p.z unit p p line)
    ∙ ap (λ (d : Done). d >>= λ done. Ok (with_stop false done)) (named-up c unit p line fits)

-- and then one across
target-across : (c : Control) (p : Progress) (m : Machine) (unit : Unit) (at : Pt3) → IsInUnitRange unit at
    → target_for c (record p { unit = unit; here = at; machine = record m { inches = false } }) (across_told unit at) ≡ Ok at
unfolding target_for across_told
target-across c p m unit at fits =
    let q : Progress = record p { unit = unit; here = at; machine = record m { inches = false } } in
    both_ok at.x at.y at.z (units_for c q (units_num unit at.x)) (units_for c q (units_num unit at.y)) (Ok at.z) (λ x y z. Ok (record { x = x; y = y; z = z }))
    (units_for-num c (record p { here = at }) m unit at.x fits.x_ok) (units_for-num c (record p { here = at }) m unit at.y fits.y_ok) refl

named-across : (c : Control) (unit : Unit) (p : Pt3) (line : ℕ) → IsInUnitRange unit p
    → names_by c (running c p.z Nothing machine_up unit p (On Rapid) true 0 line) (across_told unit p) ≡ Ok (running c p.z All machine_there unit p (On Rapid) true 2 line, head_moves (Some p))
unfolding names_by across_told machine_up machine_there
named-across c unit p line fits =
    let at : Progress = running c p.z Nothing machine_up unit p (On Rapid) true 0 line in
    ap (λ (t : Result Pt3 NgcFault). (t >>= λ to. gone_to Nothing at Rapid true to) >>= λ done. Ok (exactly (exact_to at (across_told unit p) None) (with_place (machine_behind at (across_told unit p)) done))) (target-across c at machine_up unit p fits)
    ∙ ap (λ (f : Finer). Ok (running c p.z All (record machine_there { finer = f }) unit p (On Rapid) true 2 line, head_moves (Some p)))
    (finer-by (text_units (per Millimetres unit) (units_num unit p.x) -ℤ (parts *ℤ p.x)) (text_units (per Millimetres unit) (units_num unit p.y) -ℤ (parts *ℤ p.y)) (((parts *ℤ p.z) +ℤ pos 0) -ℤ (parts *ℤ p.z))
    (exact-num unit p.x fits.x_ok) (exact-num unit p.y fits.y_ok) (exact-here p.z))

machine-across : (c : Control) (unit : Unit) (p : Pt3) (line : ℕ) → IsInUnitRange unit p
    → machine_acted c (running c p.z Nothing machine_up unit p (On Rapid) true 0 line) (across_told unit p) ≡ Ok (running c p.z All machine_there unit p (On Rapid) true 2 line, head_moves (Some p))
unfolding machine_acted across_told
machine-across c unit p line fits =
    ap (λ (q : Progress). machine_done c q (across_told unit p) >>= λ done. Ok (with_stop false done)) (settled-across c p.z unit p p line)
    ∙ ap (λ (d : Done). d >>= λ done. Ok (with_stop false done)) (named-across c unit p line fits)

-- ---- lines

running_line-move : (c : Control) (clear : ℤ) (unit : Unit) (m : Move) (mode : Mode) (positioned : Bool) (moves number : ℕ) (line : List ℕ) → IsInUnitRange unit m.to → moves < MAX_MOVES → IsMoveLine unit m line
    → after_line (running c clear All machine_there unit m.from mode positioned moves number) line
    ≡ Ok (running c clear All machine_there unit m.to (On (written_as m.kind)) true (moves + 1) (number + 1), as_written m ∷ [])
unfolding after_line after_words
running_line-move c clear unit m mode positioned moves number line fits few is_line =
    rw (not_long (length line) is_line.short, is_line.other, is_line.words_are)
    (ap (λ (s : Result MachineSaid NgcFault). s >>= λ s. machine_acted c (running c clear All machine_there unit m.from mode positioned moves (number + 1)) s)
    (told_line-move c (settled_before (running c clear All machine_there unit m.from mode positioned moves (number + 1))) unit m.kind m.from m.to)
    ∙ machine-move c clear unit m.from mode positioned moves (number + 1) (written_as m.kind) m.to fits few)

running_line-up : (c : Control) (unit : Unit) (p : Pt3) (number : ℕ) (line : List ℕ) → IsInUnitRange unit p → IsLine (up_words unit p) line
    → after_line (running c p.z Nothing machine_begun unit p Off false 0 number) line ≡ Ok (running c p.z Nothing machine_up unit p (On Rapid) true 0 (number + 1), [])
unfolding after_line after_words
running_line-up c unit p number line fits is_line =
    rw (not_long (length line) is_line.short, is_line.other, is_line.words_are)
    (ap (λ (s : Result MachineSaid NgcFault). s >>= λ s. machine_acted c (running c p.z Nothing machine_begun unit p Off false 0 (number + 1)) s)
    (told_line-up c (settled_before (running c p.z Nothing machine_begun unit p Off false 0 (number + 1))) unit p)
    ∙ machine-up c unit p (number + 1) fits)

running_line-across : (c : Control) (unit : Unit) (p : Pt3) (number : ℕ) (line : List ℕ) → IsInUnitRange unit p → IsLine (across_words unit p) line
    → after_line (running c p.z Nothing machine_up unit p (On Rapid) true 0 number) line ≡ Ok (running c p.z All machine_there unit p (On Rapid) true 2 (number + 1), head_moves (Some p))
unfolding after_line after_words
running_line-across c unit p number line fits is_line =
    rw (not_long (length line) is_line.short, is_line.other, is_line.words_are)
    (ap (λ (s : Result MachineSaid NgcFault). s >>= λ s. machine_acted c (running c p.z Nothing machine_up unit p (On Rapid) true 0 (number + 1)) s)
    (told_line-across c (settled_before (running c p.z Nothing machine_up unit p (On Rapid) true 0 (number + 1))) unit p)
    ∙ machine-across c unit p (number + 1) fits)

-- ---- the program

running-end : (c : Control) (clear : ℤ) (unit : Unit) (here : Pt3) (mode : Mode) (count number : ℕ) (done : List Move)
    → moves_from (running c clear All machine_there unit here mode true count number) done end_lines ≡ Ok (done ++ [])
unfolding moves_from after_line after_words line_of read_marks marks_from grown_word finished started told_from told_row row_of tenths_of whole_of machine_acted settled_for machine_there
running-end c clear unit here mode count number done = refl

running-move : (c : Control) (clear : ℤ) (unit : Unit) (m : Move) (here : Pt3) (mode : Mode) (count number : ℕ) (done : List Move) (line : List ℕ) (lines : List (List ℕ))
    → m.from ≡ here → IsInUnitRange unit m.to → count < MAX_MOVES → IsMoveLine unit m line
    → moves_from (running c clear All machine_there unit here mode true count number) done (line ∷ lines)
    ≡ moves_from (running c clear All machine_there unit m.to (On (written_as m.kind)) true (count + 1) (number + 1)) (done ++ as_written m ∷ []) lines
unfolding moves_from
running-move c clear unit m here mode count number done line lines follow fits few is_line =
    rw (← follow, running_line-move c clear unit m mode true count number line fits few is_line) refl

running-moves : (c : Control) (clear : ℤ) (unit : Unit) (line : Move → List ℕ) → ((m : Move) → MoveInUnitRange unit m → IsMoveLine unit m (line m))
    → (moves : List Move) (here : Pt3) (mode : Mode) (count number : ℕ) (done : List Move)
    → Follow here moves → MovesInUnitRange unit moves → count + length moves ≤ MAX_MOVES
    → moves_from (running c clear All machine_there unit here mode true count number) done (map line moves ++ end_lines) ≡ Ok (done ++ map as_written moves)
running-moves c clear unit line is_line [] here mode count number done follow fits few = running-end c clear unit here mode count number done
running-moves c clear unit line is_line (m ∷ moves) here mode count number done follow fits few =
    let first : MoveInUnitRange unit m = fits m (search rules) in
    let others : MovesInUnitRange unit moves = λ n member. fits n (Contains-append_right (m ∷ []) moves n member) in
    running-move c clear unit m here mode count number done (line m) (map line moves ++ end_lines) follow.0 first.to_ok (omega arith) (is_line m first)
    ∙ running-moves c clear unit line is_line moves m.to (On (written_as m.kind)) (count + 1) (number + 1) (done ++ as_written m ∷ []) follow.1 others (omega arith)
    ∙ ap (λ (ms : List Move). Ok ms) (append_assoc done (as_written m ∷ []) (map as_written moves))

running-head : (c : Control) (unit : Unit) (p : Pt3) (number : ℕ) (up across : List ℕ) (lines : List (List ℕ)) → IsInUnitRange unit p → IsLine (up_words unit p) up → IsLine (across_words unit p) across
    → moves_from (running c p.z Nothing machine_begun unit p Off false 0 number) [] (up ∷ across ∷ lines) ≡ moves_from (running c p.z All machine_there unit p (On Rapid) true 2 (number + 1 + 1)) (head_moves (Some p)) lines
unfolding moves_from
running-head c unit p number up across lines fits is_up is_across =
    rw (running_line-up c unit p number up fits is_up, running_line-across c unit p (number + 1) across fits is_across) refl

running-header : (c : Control) (unit : Unit) (start : Pt3) (lines : List (List ℕ))
    → moves_from (start_at start unit (record { from_anywhere = true; needs_spindle = false; words = MachineWords c })) [] (codes "%" ∷ codes "G17 G21 G90" ∷ lines)
    ≡ moves_from (running c start.z Nothing machine_begun unit start Off false 0 2) [] lines
unfolding moves_from after_line after_words line_of read_marks marks_from grown_word finished started told_from told_row row_of tenths_of whole_of machine_acted settled_for
running-header c unit start lines = by c.one_length c.change_raises
  where
    by : (one raises : Bool)
        → moves_from (start_at start unit (record { from_anywhere = true; needs_spindle = false; words = MachineWords (record c { one_length = one; change_raises = raises }) })) [] (codes "%" ∷ codes "G17 G21 G90" ∷ lines)
        ≡ moves_from (running (record c { one_length = one; change_raises = raises }) start.z Nothing machine_begun unit start Off false 0 2) [] lines
    by true true = refl
    by true false = refl
    by false true = refl
    by false false = refl

-- behind the way to the first place come the moves of the program's own
running-begun : (c : Control) (unit : Unit) (line : Move → List ℕ) → ((m : Move) → MoveInUnitRange unit m → IsMoveLine unit m (line m))
    → (p start : Pt3) (moves : List Move) (head : List (List ℕ)) → AreHead unit (Some p) head
    → Follow start (head_moves (Some p) ++ moves) → MovesInUnitRange unit (head_moves (Some p) ++ moves) → length (head_moves (Some p) ++ moves) ≤ MAX_MOVES
    → moves_from (running c start.z Nothing machine_begun unit start Off false 0 2) [] (head ++ (map line moves ++ end_lines)) ≡ Ok (head_moves (Some p) ++ map as_written moves)
running-begun c unit line is_line p start moves (up ∷ across ∷ []) is_head follow fits few =
    let first : IsInUnitRange unit p = (fits (stay p) (search rules)).to_ok in
    let others : MovesInUnitRange unit moves = λ n member. fits n (Contains-append_right (stay p ∷ stay p ∷ []) moves n member) in
    rw (← follow.0) (running-head c unit p 2 up across (map line moves ++ end_lines) first is_head.0 is_head.1
    ∙ running-moves c p.z unit line is_line moves p (On Rapid) 2 (2 + 1 + 1) (head_moves (Some p)) follow.1.1 others (omega arith))
running-begun c unit line is_line p start moves [] is_head follow fits few = absurd is_head
running-begun c unit line is_line p start moves (up ∷ []) is_head follow fits few = absurd is_head
running-begun c unit line is_line p start moves (up ∷ across ∷ other ∷ more) is_head follow fits few = absurd is_head

-- a program of these lines means the moves to a machine, whatever its control
pub program_of-running : (c : Control) (unit : Unit) (line : Move → List ℕ) → ((m : Move) → MoveInUnitRange unit m → IsMoveLine unit m (line m))
    → (p start : Pt3) (moves : List Move) (head : List (List ℕ)) (text : List ℕ) → AreHead unit (Some p) head
    → Follow start (head_moves (Some p) ++ moves) → MovesInUnitRange unit (head_moves (Some p) ++ moves) → length (head_moves (Some p) ++ moves) ≤ MAX_MOVES
    → lines_of text ≡ codes "%" ∷ codes "G17 G21 G90" ∷ (head ++ (map line moves ++ end_lines)) → program_of start unit (rules_with (Some p) (MachineWords c)) text ≡ Ok (map as_written (head_moves (Some p) ++ moves))
unfolding program_of
program_of-running c unit line is_line p start moves head text is_head follow fits few lines =
    rw lines (running-header c unit start (head ++ (map line moves ++ end_lines)) ∙ running-begun c unit line is_line p start moves head is_head follow fits few)
