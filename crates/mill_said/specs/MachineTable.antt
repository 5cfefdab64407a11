-- The table of the words that a program for a machine may have: each one's modal group, and its meaning.
use Rattle.std.specs.Prelude.{ℕ, Option, Some, None, Bool, true, false, not, ◌&&◌, ◌||◌, ◌==◌, ◌*◌, ◌%◌, ◌/◌, ◌^◌, nat_lt, nat_le, if◌then◌else◌}
use Rattle.mill_base.specs.declared.motion.Kind.TheVariants.{Rapid, Feed}
use Rattle.mill_words.specs.declared.word.Num.{Num}
use Rattle.mill_words.specs.declared.word.Word.{Word}
use Rattle.mill_control.specs.declared.lengths.LengthUnit.TheVariants.{Millimetres, Inches}
use Rattle.mill_control.specs.declared.series.Cycle.TheVariants as cycle
use Rattle.mill_control.specs.declared.series.Return.TheVariants.{Level, Clearance}
use Rattle.mill_control.specs.declared.turn.Plane.TheVariants as plane
use Rattle.mill_control.specs.declared.turn.Turn.TheVariants.{Clockwise, Counterclockwise}
use Rattle.mill_said.specs.declared.machine_table.Row.{Row}
use Rattle.mill_said.specs.declared.machine_table.Meaning.{Meaning}
use Rattle.mill_said.specs.declared.machine_table.Meaning.TheVariants as meaning
use Rattle.mill_said.specs.Numbers.{whole_of}

-- ten times a number, if that is a whole one and isn't less than 0: G59.1 is 591
unfoldable pub tenths_of : Num → Option ℕ
tenths_of n =
    if not ((10 * n.mant) % 10 ^ n.scale == 0) then None else
    (if n.neg && nat_lt 0 n.mant then None else Some ((10 * n.mant) / 10 ^ n.scale))

abbrev pub in_group : ℕ → Meaning → Option Row
in_group group m = Some (record { group = group; meaning = m })

-- the zeros of parts: G54 to G59, and G59.1 to G59.3
abbrev pub is_zero : ℕ → Bool
is_zero n = ((nat_le 540 n && nat_le n 590) && (n % 10 == 0)) || (nat_le 591 n && nat_le n 593)

-- the motion modes
abbrev pub motion_row : ℕ → Option Row
motion_row n =
    if n == 0 then in_group 1 (meaning.Straight Rapid) else
    (if n == 10 then in_group 1 (meaning.Straight Feed) else
    (if n == 20 then in_group 1 (meaning.Turn Clockwise) else
    (if n == 30 then in_group 1 (meaning.Turn Counterclockwise) else
    (if n == 800 then in_group 1 meaning.Still else
    (if n == 810 then in_group 1 (meaning.Drill cycle.Drill) else
    (if n == 820 then in_group 1 (meaning.Drill cycle.Dwell) else
    (if n == 830 then in_group 1 (meaning.Drill cycle.Peck) else
    (if n == 730 then in_group 1 (meaning.Drill cycle.Break) else None))))))))

-- the plane of arcs
abbrev pub plane_row : ℕ → Option Row
plane_row n =
    if n == 170 then in_group 2 (meaning.Plane plane.Xy) else
    (if n == 180 then in_group 2 (meaning.Plane plane.Zx) else
    (if n == 190 then in_group 2 (meaning.Plane plane.Yz) else None))

-- how numbers are read
abbrev pub number_row : ℕ → Option Row
number_row n =
    if n == 900 then in_group 3 (meaning.Absolute true) else
    (if n == 910 then in_group 3 (meaning.Absolute false) else
    (if (n == 200) || (n == 700) then in_group 6 (meaning.Lengths Inches) else
    (if (n == 210) || (n == 710) then in_group 6 (meaning.Lengths Millimetres) else
    (if n == 430 then in_group 8 (meaning.Length true) else
    (if n == 490 then in_group 8 (meaning.Length false) else
    (if is_zero n then in_group 12 (meaning.Zero n) else
    (if n == 980 then in_group 10 (meaning.Returns Level) else
    (if n == 990 then in_group 10 (meaning.Returns Clearance) else None))))))))

-- what stands for one line
abbrev pub once_row : ℕ → Option Row
once_row n =
    if n == 40 then in_group 0 meaning.Rest else
    (if (n == 280) || (n == 300) then in_group 0 meaning.Home else
    (if n == 530 then in_group 0 meaning.MachinePlace else None))

-- what changes nothing, or turns off what isn't on, and how exactly the path is followed
abbrev pub other_row : ℕ → Option Row
other_row n =
    if n == 940 then in_group 5 meaning.Nothing else
    (if n == 400 then in_group 7 meaning.Nothing else
    (if (n == 610) || (n == 611) then in_group 13 meaning.Exact else
    (if n == 640 then in_group 13 meaning.Tolerance else
    (if n == 911 then in_group 16 meaning.Nothing else
    (if n == 150 then in_group 17 meaning.Cancel else
    (if n == 500 then in_group 11 meaning.Cancel else
    (if n == 690 then in_group 19 meaning.Cancel else None)))))))

abbrev pub or_row : Option Row → Option Row → Option Row
or_row (Some row) other = Some row
or_row None other = other

-- the G words, by ten times their number
abbrev pub machine_g_row : ℕ → Option Row
machine_g_row n = or_row (motion_row n) (or_row (plane_row n) (or_row (number_row n) (or_row (once_row n) (other_row n))))

-- the M words
abbrev pub machine_m_row : ℕ → Option Row
machine_m_row n =
    if (n == 0) || (n == 1) then in_group 4 meaning.Stop else
    (if (n == 2) || (n == 30) then in_group 4 meaning.End else
    (if n == 6 then in_group 6 meaning.Change else
    (if (n == 3) || (n == 4) then in_group 7 (meaning.Spindle true) else
    (if n == 5 then in_group 7 (meaning.Spindle false) else
    (if ((n == 7) || (n == 8)) || (n == 9) then in_group 8 meaning.Nothing else None)))))

-- the other letters; F, H, I, J, K, O, P, Q, R, S, T, X, Y and Z are 70, 72, 73, 74, 75, 79, 80, 81, 82, 83, 84, 88, 89 and 90
abbrev pub machine_letter_row : ℕ → Option Row
machine_letter_row letter =
    if letter == 88 then in_group 0 meaning.X else
    (if letter == 89 then in_group 0 meaning.Y else
    (if letter == 90 then in_group 0 meaning.Z else
    (if letter == 70 then in_group 0 meaning.Rate else
    (if letter == 83 then in_group 0 meaning.Speed else
    (if letter == 84 then in_group 0 meaning.Tool else
    (if letter == 72 then in_group 0 meaning.H else
    (if letter == 73 then in_group 0 meaning.I else
    (if letter == 74 then in_group 0 meaning.J else
    (if letter == 75 then in_group 0 meaning.K else
    (if letter == 79 then in_group 0 meaning.Name else
    (if letter == 80 then in_group 0 meaning.P else
    (if letter == 81 then in_group 0 meaning.Q else
    (if letter == 82 then in_group 0 meaning.R else None)))))))))))))

abbrev pub row_in : (ℕ → Option Row) → Option ℕ → Option Row
row_in table None = None
row_in table (Some n) = table n

-- the row of a word, if it is of the table; G is 71, M 77, and their numbers are compared by value
unfoldable pub row_of : Word → Option Row
row_of w =
    if w.letter == 71 then row_in machine_g_row (tenths_of w.num) else
    (if w.letter == 77 then row_in machine_m_row (whole_of w.num) else machine_letter_row w.letter)
