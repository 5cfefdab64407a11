-- The line of a move, and those of the way to a first place: their words, their length, and what their bytes are not; and the text of a list of moves read back.
use Rattle.std.proofs.Common.{◌≡◌, ℕ, suc, ◌*◌, ◌≤◌, List, [], ◌∷◌, ◌++◌, length, map, arith, rules, false, Option, Some, None, Ok, refl, sym, ap, ◌∙◌, append_assoc, append-nil, length-append}
use Rattle.std.specs.Prelude.{⊤, ℤ, codes, ◌==◌}
use Rattle.std.specs.List.{flat_map}
use Rattle.std.proofs.lemmas.Bool.Decides.{nat_tests}
use Rattle.std.proofs.lemmas.List.Elements.{Contains-append_right}
use Rattle.mill_base.specs.Numbers.{Within}
use Rattle.mill_base.specs.Ranges.{IsInUnitRange, MoveInUnitRange, MovesInUnitRange}
use Rattle.mill_base.specs.Units.{greatest_of}
use Rattle.mill_base.specs.declared.motion.Kind.{Kind}
use Rattle.mill_base.specs.declared.motion.Kind.TheVariants.{Rapid, Feed, Dogleg}
use Rattle.mill_base.specs.declared.motion.Move.{Move}
use Rattle.mill_base.specs.declared.points.Pt3.{Pt3}
use Rattle.mill_base.specs.declared.unit.Unit.{Unit}
use Rattle.mill_decimal.specs.Decimals.{canonical}
use Rattle.mill_decimal.proofs.Canonical.{length-canonical}
use Rattle.mill_words.specs.Lines.{line_of}
use Rattle.mill_words.specs.declared.word.Word.{Word}
use Rattle.mill_words.proofs.Spelled.{Spelled, IsSpelled, AreSpelled, spelling, more_text, word_of, line_of-spelled}
use Rattle.mill_block.specs.Lines.{is_percent}
use Rattle.mill_ngc.proofs.MoveLines.{IsLine, axis_of, motion_of}
use Rattle.mill_said.specs.declared.rules.Words.TheVariants.{Strict, Machine}
use Rattle.mill_ngc.proofs.Heads.{AreHead, across_words, program_of-moves, up_words}
use Rattle.mill_ngc.proofs.MachineMoves.{program_of-running}
use Rattle.mill_ngc.specs.Writing.{across_line, axis_word, ended, head_lines, head_moves, motion_word, move_line, program_lines, program_text, stay, up_line}
use Rattle.mill_ngc.specs.Readings.{ReadsBack}
use Rattle.mill_ngc.proofs.Cutting.{NoFeed, NoFeeds, NoFeed-append, NoFeeds-append, lines_of-ended}
use Rattle.mill_ngc.proofs.Numerals.{NoFeed-canonical, axis_spelled, word_of-axis, IsSpelled-axis}

-- ---- a line of a motion and some axes

digit_text : Kind → List ℕ
digit_text Rapid = 48 ∷ []
digit_text Feed = 49 ∷ []
digit_text Dogleg = 48 ∷ []

-- G0 or G1 as it is spelled
abbrev motion_spelled : Kind → Spelled
motion_spelled kind = record { letter = 71; neg = false; whole = digit_text kind; part = None }

word_of-motion : (kind : Kind) → word_of (motion_spelled kind) ≡ motion_of kind
unfolding digit_text
word_of-motion Rapid = refl
word_of-motion Feed = refl
word_of-motion Dogleg = refl

IsSpelled-motion : (kind : Kind) → IsSpelled (motion_spelled kind)
unfolding digit_text
IsSpelled-motion Rapid = record { least = omega arith; most = omega arith; no_line_number = refl; whole = (omega arith, tt); part = tt; some = omega arith; few = omega arith }
IsSpelled-motion Dogleg = record { least = omega arith; most = omega arith; no_line_number = refl; whole = (omega arith, tt); part = tt; some = omega arith; few = omega arith }
IsSpelled-motion Feed = record { least = omega arith; most = omega arith; no_line_number = refl; whole = (omega arith, tt); part = tt; some = omega arith; few = omega arith }

spelling-motion : (kind : Kind) → spelling (motion_spelled kind) ≡ motion_word kind
unfolding digit_text
spelling-motion Rapid = refl
spelling-motion Feed = refl
spelling-motion Dogleg = refl

-- an axis: its letter, and where the move ends on it
record Axis : Type 0 where
  letter : ℕ
  units : ℤ

abbrev axes_text : Unit → List Axis → List ℕ
axes_text unit [] = []
axes_text unit (a ∷ axes) = axis_word unit a.letter a.units ++ axes_text unit axes

-- the letters are X, Y and Z, or others near them, and the units in range
record IsAxis (unit : Unit) (a : Axis) : Type 0 where
  least : 79 ≤ a.letter
  most : a.letter ≤ 90
  within : Within (greatest_of unit) a.units

abbrev AreAxes : Unit → List Axis → Type 0
AreAxes unit [] = ⊤
AreAxes unit (a ∷ axes) = IsAxis unit a × AreAxes unit axes

abbrev axes_spelled : Unit → List Axis → List Spelled
axes_spelled unit [] = []
axes_spelled unit (a ∷ axes) = axis_spelled unit a.letter a.units ∷ axes_spelled unit axes

abbrev axes_words : Unit → List Axis → List Word
axes_words unit [] = []
axes_words unit (a ∷ axes) = axis_of unit a.letter a.units ∷ axes_words unit axes

more_text-axes : (unit : Unit) (axes : List Axis) → more_text (axes_spelled unit axes) ≡ axes_text unit axes
unfolding canonical
more_text-axes unit [] = refl
more_text-axes unit (a ∷ axes) = rw (more_text-axes unit axes) refl

no_line_number : (letter : ℕ) → 79 ≤ letter → (letter == 78) ≡ false
no_line_number letter least = grind (arith, nat_tests)

AreSpelled-axes : (unit : Unit) (axes : List Axis) → AreAxes unit axes → AreSpelled (axes_spelled unit axes)
AreSpelled-axes unit [] ok = tt
AreSpelled-axes unit (a ∷ axes) ok =
    (IsSpelled-axis unit a.letter a.units (omega (arith, ok.0.least)) ok.0.most (no_line_number a.letter ok.0.least) ok.0.within, AreSpelled-axes unit axes ok.1)

words_of-axes : (unit : Unit) (axes : List Axis) → AreAxes unit axes → map word_of (axes_spelled unit axes) ≡ axes_words unit axes
words_of-axes unit [] ok = refl
words_of-axes unit (a ∷ axes) ok = rw (word_of-axis unit a.letter a.units ok.0.within, words_of-axes unit axes ok.1) refl

length-spelled : (unit : Unit) (axes : List Axis) → length (axes_spelled unit axes) ≡ length axes
length-spelled unit [] = refl
length-spelled unit (a ∷ axes) = ap suc (length-spelled unit axes)

line_text : (unit : Unit) (kind : Kind) (axes : List Axis) → spelling (motion_spelled kind) ++ more_text (axes_spelled unit axes) ≡ motion_word kind ++ axes_text unit axes
line_text unit kind axes =
    ap (λ (text : List ℕ). text ++ more_text (axes_spelled unit axes)) (spelling-motion kind) ∙ ap (λ (text : List ℕ). motion_word kind ++ text) (more_text-axes unit axes)

line_says : (unit : Unit) (kind : Kind) (axes : List Axis) → AreAxes unit axes → word_of (motion_spelled kind) ∷ map word_of (axes_spelled unit axes) ≡ motion_of kind ∷ axes_words unit axes
line_says unit kind axes ok =
    ap (λ (w : Word). w ∷ map word_of (axes_spelled unit axes)) (word_of-motion kind) ∙ ap (λ (ws : List Word). motion_of kind ∷ ws) (words_of-axes unit axes ok)

line_words : (unit : Unit) (kind : Kind) (axes : List Axis) → AreAxes unit axes → length axes ≤ 3
    → line_of (motion_word kind ++ axes_text unit axes) ≡ Ok (record { slash = false; numbered = false; words = motion_of kind ∷ axes_words unit axes })
line_words unit kind axes ok few =
    ap line_of (sym (line_text unit kind axes))
    ∙ line_of-spelled (motion_spelled kind) (axes_spelled unit axes) (IsSpelled-motion kind) (AreSpelled-axes unit axes ok) (omega (arith, length-spelled unit axes))
    ∙ ap (λ (ws : List Word). Ok (record { slash = false; numbered = false; words = ws })) (line_says unit kind axes ok)

-- ---- the bytes

length-motion : (kind : Kind) → length (motion_word kind) ≤ 2
length-motion Rapid = omega arith
length-motion Feed = omega arith
length-motion Dogleg = omega arith

length-axes : (unit : Unit) (axes : List Axis) → AreAxes unit axes → length (axes_text unit axes) ≤ 10 * length axes
length-axes unit [] ok = omega arith
length-axes unit (a ∷ axes) ok =
    let parts = length-append (axis_word unit a.letter a.units) (axes_text unit axes) in
    omega (arith, parts, length-canonical unit a.units ok.0.within, length-axes unit axes ok.1)

line_short : (unit : Unit) (kind : Kind) (axes : List Axis) → AreAxes unit axes → length axes ≤ 3 → length (motion_word kind ++ axes_text unit axes) ≤ 256
line_short unit kind axes ok few = omega (arith, length-append (motion_word kind) (axes_text unit axes), length-motion kind, length-axes unit axes ok)

is_percent-by : (kind : Kind) (rest : List ℕ) → is_percent (motion_word kind ++ rest) ≡ false
is_percent-by Rapid rest = refl
is_percent-by Feed rest = refl
is_percent-by Dogleg rest = refl

line_is : (unit : Unit) (kind : Kind) (axes : List Axis) → AreAxes unit axes → length axes ≤ 3 → IsLine (motion_of kind ∷ axes_words unit axes) (motion_word kind ++ axes_text unit axes)
line_is unit kind axes ok few = record {
  words_are = line_words unit kind axes ok few;
  short = line_short unit kind axes ok few;
  other = is_percent-by kind (axes_text unit axes);
}

not_feed_letter : (letter : ℕ) → 79 ≤ letter → (letter == 10) ≡ false
not_feed_letter letter least = grind (arith, nat_tests)

NoFeed-axes : (unit : Unit) (axes : List Axis) → AreAxes unit axes → NoFeed (axes_text unit axes)
NoFeed-axes unit [] ok = tt
NoFeed-axes unit (a ∷ axes) ok =
    NoFeed-append (axis_word unit a.letter a.units) (axes_text unit axes) (refl, (not_feed_letter a.letter ok.0.least, NoFeed-canonical unit a.units ok.0.within)) (NoFeed-axes unit axes ok.1)

NoFeed-motion : (kind : Kind) → NoFeed (motion_word kind)
NoFeed-motion Rapid = (refl, (refl, tt))
NoFeed-motion Feed = (refl, (refl, tt))
NoFeed-motion Dogleg = (refl, (refl, tt))

NoFeed-line : (unit : Unit) (kind : Kind) (axes : List Axis) → AreAxes unit axes → NoFeed (motion_word kind ++ axes_text unit axes)
NoFeed-line unit kind axes ok = NoFeed-append (motion_word kind) (axes_text unit axes) (NoFeed-motion kind) (NoFeed-axes unit axes ok)

-- ---- the lines that are written

-- the line has these words and no line feed
record IsWritten (words : List Word) (line : List ℕ) : Type 0 where
  line_ok : IsLine words line
  whole : NoFeed line

written : (unit : Unit) (kind : Kind) (axes : List Axis) (line : List ℕ) → line ≡ motion_word kind ++ axes_text unit axes → AreAxes unit axes → length axes ≤ 3 → IsWritten (motion_of kind ∷ axes_words unit axes) line
written unit kind axes line is ok few = rw is (record { line_ok = line_is unit kind axes ok few; whole = NoFeed-line unit kind axes ok })

abbrev axis : ℕ → ℤ → Axis
axis letter z = record { letter = letter; units = z }

is_axis : (unit : Unit) (letter : ℕ) (z : ℤ) → 79 ≤ letter → letter ≤ 90 → Within (greatest_of unit) z → IsAxis unit (axis letter z)
is_axis unit letter z least most within = record { least = least; most = most; within = within }

move_line-is : (unit : Unit) (m : Move) → IsInUnitRange unit m.to → IsWritten (motion_of m.kind ∷ axis_of unit 88 m.to.x ∷ axis_of unit 89 m.to.y ∷ axis_of unit 90 m.to.z ∷ []) (move_line unit m)
unfolding move_line
move_line-is unit m fits =
    written unit m.kind (axis 88 m.to.x ∷ axis 89 m.to.y ∷ axis 90 m.to.z ∷ []) (move_line unit m) (simp (append_assoc, append-nil))
    (is_axis unit 88 m.to.x (omega arith) (omega arith) fits.x_ok, (is_axis unit 89 m.to.y (omega arith) (omega arith) fits.y_ok, (is_axis unit 90 m.to.z (omega arith) (omega arith) fits.z_ok, tt))) (omega arith)

up_line-is : (unit : Unit) (p : Pt3) → IsInUnitRange unit p → IsWritten (up_words unit p) (up_line unit p)
unfolding up_line
up_line-is unit p fits =
    written unit Rapid (axis 90 p.z ∷ []) (up_line unit p) (simp (append_assoc, append-nil)) (is_axis unit 90 p.z (omega arith) (omega arith) fits.z_ok, tt) (omega arith)

across_line-is : (unit : Unit) (p : Pt3) → IsInUnitRange unit p → IsWritten (across_words unit p) (across_line unit p)
unfolding across_line
across_line-is unit p fits =
    written unit Rapid (axis 88 p.x ∷ axis 89 p.y ∷ []) (across_line unit p) (simp (append_assoc, append-nil))
    (is_axis unit 88 p.x (omega arith) (omega arith) fits.x_ok, (is_axis unit 89 p.y (omega arith) (omega arith) fits.y_ok, tt)) (omega arith)

-- ---- the text

NoFeeds-moves : (unit : Unit) (moves : List Move) → MovesInUnitRange unit moves → NoFeeds (map (move_line unit) moves)
NoFeeds-moves unit [] fits = tt
NoFeeds-moves unit (m ∷ moves) fits =
    let first : MoveInUnitRange unit m = fits m (search rules) in
    ((move_line-is unit m first.to_ok).whole, NoFeeds-moves unit moves (λ n member. fits n (Contains-append_right (m ∷ []) moves n member)))

-- the lines of the way to the first place, and that the moves behind it are in range
record HasHead (unit : Unit) (begin : Option Pt3) (moves : List Move) : Type 0 where
  head : AreHead unit begin (head_lines unit begin)
  whole : NoFeeds (head_lines unit begin)
  others : MovesInUnitRange unit moves

has_head : (unit : Unit) (begin : Option Pt3) (moves : List Move) → MovesInUnitRange unit (head_moves begin ++ moves) → HasHead unit begin moves
has_head unit None moves fits = record { head = refl; whole = tt; others = fits }
has_head unit (Some p) moves fits =
    let here : IsInUnitRange unit p = (fits (stay p) (search rules)).to_ok in
    let up = up_line-is unit p here in
    let across = across_line-is unit p here in
    record {
      head = (up.line_ok, across.line_ok);
      whole = (up.whole, (across.whole, tt));
      others = λ n member. fits n (Contains-append_right (stay p ∷ stay p ∷ []) moves n member);
    }

NoFeed-header : NoFeed (codes "G17 G21 G90")
NoFeed-header = search rules

NoFeeds-program : (unit : Unit) (begin : Option Pt3) (moves : List Move) → HasHead unit begin moves → NoFeeds (program_lines unit begin moves)
NoFeeds-program unit begin moves has = (
  (refl, tt),
  (
    NoFeed-header,
    NoFeeds-append (head_lines unit begin) (map (move_line unit) moves ++ codes "M2" ∷ codes "%" ∷ []) has.whole
        (NoFeeds-append (map (move_line unit) moves) (codes "M2" ∷ codes "%" ∷ []) (NoFeeds-moves unit moves has.others) ((refl, (refl, tt)), ((refl, tt), tt))),
  ),
)

-- the text of moves reads back
pub reads_back : (unit : Unit) (begin : Option Pt3) (moves : List Move) → ReadsBack unit begin moves (program_text unit begin moves)
unfolding program_text
reads_back unit begin moves Strict may start follow fits few =
    let has : HasHead unit begin moves = has_head unit begin moves fits in
    program_of-moves unit (move_line unit) (λ m ok. (move_line-is unit m ok.to_ok).line_ok) begin start moves (head_lines unit begin) (flat_map ended (program_lines unit begin moves)) has.head follow fits few
    (lines_of-ended (program_lines unit begin moves) (NoFeeds-program unit begin moves has) ∙ simp append_assoc)
reads_back unit None moves (Machine c) may start follow fits few = absurd may
reads_back unit (Some p) moves (Machine c) may start follow fits few =
    let has : HasHead unit (Some p) moves = has_head unit (Some p) moves fits in
    program_of-running c unit (move_line unit) (λ m ok. (move_line-is unit m ok.to_ok).line_ok) p start moves (head_lines unit (Some p)) (flat_map ended (program_lines unit (Some p) moves)) has.head follow fits few
    (lines_of-ended (program_lines unit (Some p) moves) (NoFeeds-program unit (Some p) moves has) ∙ simp append_assoc)
