-- The path that a program's own numbers give, before they are rounded to units. Its points are in parts of 10^18 of a unit, in which every number of a text is whole.
use Rattle.std.specs.Prelude.{◌≡◌, ℕ, zero, suc, ℤ, pos, ◌+◌, ◌*◌, ◌^◌, ◌+ℤ◌, ◌-ℤ◌, ◌*ℤ◌, int_lt, nat_abs, ◌≤◌, map, Bool, true, false, if◌then◌else◌, List, [], ◌∷◌, ◌++◌, replicate, length, nat_lt, Option, Some, None, IfSome, Result, Ok, Err}
use Rattle.mill_base.specs.Numbers.{greater, lesser}
use Rattle.mill_base.specs.Rounded.{AreRounded, twice_off}
use Rattle.mill_base.specs.declared.motion.Kind.{Kind}
use Rattle.mill_base.specs.declared.motion.Kind.TheVariants.{Rapid, Feed}
use Rattle.mill_base.specs.declared.motion.Move.{Move}
use Rattle.mill_base.specs.declared.points.Pt3.{Pt3}
use Rattle.mill_base.specs.declared.unit.Unit.{Unit}
use Rattle.mill_words.specs.Lines.{line_of}
use Rattle.mill_words.specs.Words.{Line, is_blank as is_blank_line}
use Rattle.mill_words.specs.declared.word.Num.{Num}
use Rattle.mill_words.specs.declared.word.WordFault.{WordFault}
use Rattle.mill_control.specs.Holes.{Stop, at_height, bite_of, count_bites, per_of as per_of_hole, sunk, top_of}
use Rattle.mill_arc.specs.Chords.{chords_of}
use Rattle.mill_arc.specs.Places.{height_at, nearest}
use Rattle.mill_arc.specs.Vectors.{plus, times}
use Rattle.mill_arc.specs.declared.vectors.Vector.{Vector}
use Rattle.mill_arc.specs.declared.chords.Chord.{Chord}
use Rattle.mill_control.specs.Unrounded.{nano_parts, parts, text_units}
use Rattle.mill_control.specs.Lengths.{exact}
use Rattle.mill_control.specs.declared.hole.Hole.{Hole}
use Rattle.mill_control.specs.declared.series.Cycle.{Cycle}
use Rattle.mill_control.specs.declared.series.Cycle.TheVariants.{Peck}
use Rattle.mill_control.specs.declared.series.Return.{Return}
use Rattle.mill_control.specs.declared.series.Return.TheVariants.{Level, Clearance}
use Rattle.mill_control.specs.declared.series.Series.{Series}
use Rattle.mill_control.specs.declared.turn.Plane.{Plane}
use Rattle.mill_control.specs.declared.turn.Turn.{Turn}
use Rattle.mill_block.specs.MachineLines.{acts, hole_for, is_taken, machine_done, parks, returns_or, series_for, text_end}
use Rattle.mill_block.specs.Lines.{after_line, has_frame, is_percent, line_begun, settled_before, with_line}
use Rattle.mill_said.specs.MachineSaid.{told_line}
use Rattle.mill_block.specs.MachineSettings.{has_lengths, per_of, settled_for}
use Rattle.mill_block.specs.MachineArcs.{fed, out_of, sweep_of}
use Rattle.mill_block.specs.Motion.{known_of}
use Rattle.mill_block.specs.TextPlaces.{exact_here, text_above, text_or, text_target}
use Rattle.mill_block.specs.declared.machine.Finer.{Finer}
use Rattle.mill_block.specs.declared.machine_arc.Sweep.{Sweep}
use Rattle.mill_said.specs.declared.fault.NgcFault.{NgcFault}
use Rattle.mill_said.specs.declared.machine_said.MachineSaid.{MachineSaid}
use Rattle.mill_said.specs.declared.machine_said.Up.{Up}
use Rattle.mill_said.specs.declared.profile.Mode.{Mode}
use Rattle.mill_said.specs.declared.profile.Mode.TheVariants.{Off, On}
use Rattle.mill_block.specs.declared.progress.Known.{Known}
use Rattle.mill_block.specs.declared.progress.Known.TheVariants.{All}
use Rattle.mill_block.specs.declared.progress.Progress.{Progress}
use Rattle.mill_said.specs.declared.rules.Control.{Control}
use Rattle.mill_said.specs.declared.rules.Words.TheVariants.{Machine}
use Rattle.mill_block.specs.Kept.{FitsProgress}
use Rattle.mill_said.specs.Bounds.{FitsTold}

-- ---- a straight way

-- a place behind a line, and the ways to it
abbrev pub Way : Type 0
Way = Pt3 × List Move

-- a straight way; before the first whole place a line waits for it, and all that waited come to it with the line that names x and y
abbrev pub text_gone : Known → Progress → Kind → Bool → Pt3 → Pt3 → Way
text_gone All p kind across at to = (to, record { kind = kind; from = at; to = to } ∷ [])
text_gone known p kind across at to = (to, if across then replicate (p.machine.waiting + 1) (record { kind = Rapid; from = to; to = to }) else [])

-- ---- a hole

-- the heights of R and of the bottom, and where the k-th peck ends, by the hole's own numbers
abbrev pub text_top : Hole → ℤ
text_top h = text_units (per_of_hole h) h.r

abbrev pub text_bottom : Hole → ℤ
text_bottom h = text_units (per_of_hole h) h.z

abbrev pub text_depth : Hole → ℕ → ℤ
text_depth h k = (exact h.r -ℤ pos (k * bite_of h.q)) *ℤ pos (per_of_hole h)

-- between two pecks: up to R, and down again until shortly over the depth before
abbrev pub text_cleared : Cycle → ℤ → ℤ → ℤ → List Stop
text_cleared Peck top clearance depth = (Rapid, top) ∷ (Rapid, lesser top (depth +ℤ parts *ℤ clearance)) ∷ []
text_cleared cycle top clearance depth = []

abbrev pub text_bitten : Hole → ℕ → List Stop
text_bitten h zero = []
text_bitten h (suc n) = text_bitten h n ++ (Feed, text_depth h (suc n)) ∷ text_cleared h.cycle (text_top h) h.peck_clearance (text_depth h (suc n))

-- the ways of a hole at x and y, from a place and back to a height, as many as the list has of it
abbrev pub text_lowered : Hole → List Stop
text_lowered h = if int_lt (top_of h) h.from.z then (Rapid, text_top h) ∷ [] else []

abbrev pub text_risen : Hole → Pt3 → List Move
text_risen h at = if int_lt h.from.z (top_of h) then record { kind = Rapid; from = at; to = at_height at (text_top h) } ∷ [] else []

abbrev pub text_crossing : Hole → Pt3 → ℤ
text_crossing h at = if int_lt h.from.z (top_of h) then text_top h else at.z

abbrev pub text_over : Hole → Pt3 → ℤ → ℤ → Pt3
text_over h at x y = record { x = x; y = y; z = text_crossing h at }

abbrev pub text_stops : Hole → ℤ → List Stop
text_stops h end = text_lowered h ++ (text_bitten h (count_bites h) ++ (Feed, text_bottom h) ∷ (Rapid, end) ∷ [])

unfoldable pub text_hole : Hole → Pt3 → ℤ → ℤ → ℤ → Way
text_hole h at x y end = (
  record { x = x; y = y; z = end },
  text_risen h at ++ record { kind = Rapid; from = at_height at (text_crossing h at); to = text_over h at x y } ∷ sunk (text_over h at x y) (text_stops h end),
)

-- ---- an arc

-- the end of a chord: the plane's coordinates are whole nanometres, and the height is that of the chord's part of the turn, to the nearest part of 10^18 of a unit
abbrev pub text_height : Unit → Sweep → Chord → ℤ
text_height unit w chord = nearest (pos (nano_parts unit) *ℤ height_at w.from w.to chord.part chord.depth) (2 ^ chord.depth)

abbrev pub text_chord_end : Unit → Plane → Sweep → Chord → Pt3
text_chord_end unit plane w chord = out_of plane (times (pos (nano_parts unit)) (plus w.centre chord.node)) (text_height unit w chord)

abbrev pub text_round : Progress → Pt3 → Sweep → Option (List Chord) → List Move
text_round p at w None = []
text_round p at w (Some chords) = fed at (map (text_chord_end p.unit p.machine.plane w) chords)

-- the chords of an arc, whose middles lie on it to the nanometre
abbrev pub text_turned : Control → Progress → Pt3 → MachineSaid → Turn → Way
text_turned c p at s turn = (text_target p at s, text_round p at (sweep_of c p s turn) (chords_of (sweep_of c p s turn).arc))

-- ---- a line

abbrev pub text_drilled : Progress → Pt3 → MachineSaid → Result Hole NgcFault → Way
text_drilled p at s (Err fault) = (at, [])
text_drilled p at s (Ok h) = text_hole h at (text_or (per_of p) at.x s.x) (text_or (per_of p) at.y s.y) (text_end (returns_or p.machine.returns) (text_top h) at.z)

abbrev pub text_acts : Control → Progress → Pt3 → MachineSaid → Mode → Option Cycle → Option Turn → Way
text_acts c p at s mode (Some cycle) turn = text_drilled p at s (hole_for c p s (series_for p s cycle))
text_acts c p at s mode None (Some turn) = text_turned c p at s turn
text_acts c p at s Off None None = (at, [])
text_acts c p at s (On kind) None None = text_gone (known_of p) p kind (parks s) at (text_target p at s)

abbrev pub text_named : Control → Progress → Pt3 → MachineSaid → Option Up → Way
text_named c p at s None = text_acts c p at s p.mode p.machine.cycle p.machine.turn
text_named c p at s (Some u) = if parks s then (at, []) else text_gone (known_of p) p Rapid false at (text_above p at)

-- where a line without a fault leads by its own numbers, behind its settings, and its ways: one for each of its moves
abbrev pub text_done : Control → Progress → Pt3 → MachineSaid → Way
text_done c p at s = if acts p s then text_named c p at s s.up else (at, [])

-- ---- a line of a text

abbrev pub text_told : Control → Progress → Pt3 → Result MachineSaid NgcFault → Way
text_told c p at (Ok s) = text_done c (settled_for c p s) at s
text_told c p at (Err f) = (at, [])

abbrev pub text_words : Control → Progress → Pt3 → Result Line WordFault → Way
text_words c p at (Ok l) = text_told c (with_line p (is_blank_line l)) at (told_line c (settled_before (with_line p (is_blank_line l))) l)
text_words c p at (Err f) = (at, [])

abbrev pub text_in : Control → Progress → Pt3 → List ℕ → Way
text_in c p at line = if nat_lt 256 (length line) then (at, []) else (if has_frame p.frame (is_percent line) then (at, []) else text_words c p at (line_of line))

-- where the next line leads by its own numbers, and its ways
unfoldable pub text_line : Control → Progress → Pt3 → List ℕ → Way
text_line c p at line = text_in c (line_begun p) at line

-- ---- how near the list is

-- a series that stays from line to line has come with an axis word, under lengths that stay, and its peck was taken in them
pub record KeepsPeck (rounds positioned lengths : Bool) (per : ℕ) (s : Series) : Type 0 where
  pub placed : positioned ≡ true
  pub measured : lengths ≡ true
  pub q_taken : IfSome s.q (λ n. is_taken rounds per n ≡ true)

-- so much, in parts of 10^18 of a unit, a number may have beside its units: half of one, or nothing where nothing is rounded
abbrev pub IsFiner : Bool → ℤ → Type 0
IsFiner rounds t = 2 * nat_abs t ≤ twice_off rounds (10 ^ 18)

pub record AreFiner (rounds : Bool) (f : Finer) : Type 0 where
  pub x_finer : IsFiner rounds f.x
  pub y_finer : IsFiner rounds f.y
  pub z_finer : IsFiner rounds f.z

-- what stays from line to line fits, and so does its peck, and the text's own place is near
pub record FitsText (c : Control) (p : Progress) : Type 0 where
  pub fits : FitsProgress p
  pub finer_fits : AreFiner c.rounds p.machine.finer
  pub peck_fits : IfSome p.machine.series (KeepsPeck c.rounds p.positioned (has_lengths p) (per_of p))

-- the list's moves of a line are the ways that its own numbers give, with their ends rounded to units, or exactly these ways where nothing is rounded; the reader knows where they lead
pub record IsTextOf (rounds : Bool) (way : Way) (done : Progress × List Move) : Type 0 where
  pub here : way.0 ≡ exact_here done.0
  pub moves : AreRounded rounds (10 ^ 18) way.1 done.1

abbrev pub LineIsTextOf : Type 0
LineIsTextOf = (c : Control) (p : Progress) (at : Pt3) (s : MachineSaid) (done : Progress × List Move) → FitsTold s → FitsText c p → at ≡ exact_here p
    → machine_done c p s ≡ Ok done → IsTextOf c.rounds (text_done c p at s) done

-- so it is of each line of a text, and what stays from line to line fits again
abbrev pub TextLineIs : Type 0
TextLineIs = (c : Control) (p : Progress) (at : Pt3) (line : List ℕ) (done : Progress × List Move) → p.rules.words ≡ Machine c → FitsText c p → at ≡ exact_here p
    → after_line p line ≡ Ok done → IsTextOf c.rounds (text_line c p at line) done × FitsText c done.0
