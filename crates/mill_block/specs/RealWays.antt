-- What a machine does on a line wherever its tip really is, and which of it the list of moves doesn't have. Places are in parts of 10^18 of a unit.
use Rattle.std.specs.Prelude.{◌≡◌, ℕ, ◌^◌, ℤ, pos, ◌+ℤ◌, ◌*ℤ◌, ◌≤ℤ◌, ◌⊎◌, ⊤, Bool, true, false, ◌&&◌, nat_lt, List, [], ◌∷◌, All, Contains, length, Option, Some, None, is_some, Result, Ok, Err}
use Rattle.mill_base.specs.Rounded.{twice_off}
use Rattle.mill_base.specs.declared.motion.Kind.TheVariants.{Rapid}
use Rattle.mill_base.specs.declared.motion.Move.{Move}
use Rattle.mill_base.specs.declared.points.Pt3.{Pt3}
use Rattle.mill_words.specs.Lines.{line_of}
use Rattle.mill_words.specs.Words.{Line, is_blank as is_blank_line}
use Rattle.mill_words.specs.declared.word.WordFault.{WordFault}
use Rattle.mill_control.specs.declared.place.Height.{Height}
use Rattle.mill_control.specs.declared.place.Height.TheVariants.{Unknown, High, Known}
use Rattle.mill_control.specs.Unrounded.{parts}
use Rattle.mill_control.specs.declared.series.Cycle.{Cycle}
use Rattle.mill_control.specs.declared.turn.Turn.{Turn}
use Rattle.mill_block.specs.Lines.{after_line, has_frame, is_percent, line_begun, settled_before, with_line}
use Rattle.mill_block.specs.MachineLines.{acts, hole_for, parks, place_of, series_for}
use Rattle.mill_said.specs.MachineSaid.{told_line}
use Rattle.mill_block.specs.MachineSettings.{is_of_tool, settled_for}
use Rattle.mill_block.specs.TextPaths.{FitsText, Way, text_drilled, text_line, text_turned}
use Rattle.mill_block.specs.TextPlaces.{exact_here, text_target}
use Rattle.mill_said.specs.declared.fault.NgcFault.{NgcFault}
use Rattle.mill_said.specs.declared.machine_said.MachineSaid.{MachineSaid}
use Rattle.mill_said.specs.declared.machine_said.Up.{Up}
use Rattle.mill_said.specs.declared.profile.Mode.{Mode}
use Rattle.mill_said.specs.declared.profile.Mode.TheVariants.{Off, On}
use Rattle.mill_block.specs.declared.progress.Progress.{Progress}
use Rattle.mill_said.specs.declared.rules.Control.{Control}
use Rattle.mill_said.specs.declared.rules.Words.TheVariants.{Machine}

-- ---- where the tip may be

-- a height at or over the safe one, or, where numbers are rounded, half a unit under it
abbrev pub IsHigh : Bool → ℤ → ℤ → Type 0
IsHigh rounds clear z = (pos 2 *ℤ (parts *ℤ clear)) ≤ℤ ((pos 2 *ℤ z) +ℤ pos (twice_off rounds (10 ^ 18)))

-- by what is known of its height, where the list has the tip at this one
abbrev pub IsHeight : Height → Bool → ℤ → ℤ → ℤ → Type 0
IsHeight Unknown rounds clear listed z = ⊤
IsHeight High rounds clear listed z = IsHigh rounds clear z
IsHeight Known rounds clear listed z = z ≡ listed

-- the tip may be at r where the list has it at the place `at`: what is known of the place is so, and where x and y aren't, a height that is known is high
pub record MayBeAt (c : Control) (p : Progress) (at r : Pt3) : Type 0 where
  pub across : (place_of p).across ≡ true → (r.x ≡ at.x) × (r.y ≡ at.y)
  pub height : IsHeight (place_of p).height c.rounds p.clear at.z r.z
  pub high : (place_of p).across ≡ false → (place_of p).height ≡ Known → IsHigh c.rounds p.clear at.z

-- ---- what a machine does

-- where a tool is selected or changed it may leave the tip anywhere; at a change of which the job says so, and where all that is known of its height is that it is high, at or over the safe height; else the tip stays
abbrev pub LeavesTip : Bool → Bool → Height → Bool → ℤ → Pt3 → Pt3 → Type 0
LeavesTip true of_tool h rounds clear r q = IsHigh rounds clear q.z
LeavesTip false true High rounds clear r q = IsHigh rounds clear q.z
LeavesTip false true Unknown rounds clear r q = ⊤
LeavesTip false true Known rounds clear r q = ⊤
LeavesTip false false h rounds clear r q = q ≡ r

-- up to the machine's own place: no lower than it was, and at or over the safe height
pub record RisesTo (clear r q : ℤ) : Type 0 where
  pub up : r ≤ℤ q
  pub high : (parts *ℤ clear) ≤ℤ q

-- straight up
pub record GoesUp (clear : ℤ) (r q : Pt3) : Type 0 where
  pub same_x : q.x ≡ r.x
  pub same_y : q.y ≡ r.y
  pub rises : RisesTo clear r.z q.z

-- across to the machine's own place, and up with it or not
abbrev pub GoesAcross : Bool → ℤ → Pt3 → Pt3 → Type 0
GoesAcross true clear r q = RisesTo clear r.z q.z
GoesAcross false clear r q = q.z ≡ r.z

abbrev pub GoesAway : Bool → Bool → ℤ → Pt3 → Pt3 → Type 0
GoesAway true up clear r q = GoesAcross up clear r q
GoesAway false up clear r q = GoesUp clear r q

-- to the line's own numbers, from where the tip is; a hole is the list's, and so are an arc's chords
abbrev pub real_acts : Control → Progress → Pt3 → MachineSaid → Mode → Option Cycle → Option Turn → Way
real_acts c p r s mode (Some cycle) turn = text_drilled p r s (hole_for c p s (series_for p s cycle))
real_acts c p r s mode None (Some turn) = text_turned c p r s turn
real_acts c p r s Off None None = (r, [])
real_acts c p r s (On kind) None None = (text_target p r s, record { kind = kind; from = r; to = text_target p r s } ∷ [])

-- the machine goes so from r on a line that names an axis or is an arc's, behind its settings
abbrev pub AxisGoes : Control → Progress → MachineSaid → Option Up → Pt3 → Way → Type 0
AxisGoes c p s None r way = way ≡ real_acts c p r s p.mode p.machine.cycle p.machine.turn
AxisGoes c p s (Some u) r way = (way.1 ≡ record { kind = Rapid; from = r; to = way.0 } ∷ []) × GoesAway (parks s) (is_some s.z) p.clear r way.0

abbrev pub SaidGoes : Bool → Control → Progress → MachineSaid → Pt3 → Way → Type 0
SaidGoes true c p s r way = AxisGoes c p s s.up r way
SaidGoes false c p s r way = way ≡ (r, [])

-- on a line that says this it goes so from r: a tool first, then the rest
pub record TellsWay (c : Control) (p : Progress) (s : MachineSaid) (r : Pt3) (way : Way) : Type 0 where
  pub left : Pt3
  pub leaves : LeavesTip (c.change_raises && s.changes) (is_of_tool s) p.machine.place.height c.rounds p.clear r left
  pub goes : SaidGoes (acts (settled_for c p s) s) c (settled_for c p s) s left way

abbrev pub ToldGoes : Control → Progress → Pt3 → Way → Result MachineSaid NgcFault → Type 0
ToldGoes c p r way (Ok s) = TellsWay c p s r way
ToldGoes c p r way (Err f) = way ≡ (r, [])

abbrev pub WordsGo : Control → Progress → Pt3 → Way → Result Line WordFault → Type 0
WordsGo c p r way (Ok l) = ToldGoes c (with_line p (is_blank_line l)) r way (told_line c (settled_before (with_line p (is_blank_line l))) l)
WordsGo c p r way (Err f) = way ≡ (r, [])

abbrev pub LineGoes : Bool → Bool → Control → Progress → Pt3 → List ℕ → Way → Type 0
LineGoes true frame c p r line way = way ≡ (r, [])
LineGoes false true c p r line way = way ≡ (r, [])
LineGoes false false c p r line way = WordsGo c p r way (line_of line)

-- on the next line of a text the machine may go so from r
abbrev pub MayGo : Control → Progress → Pt3 → List ℕ → Way → Type 0
MayGo c p r line way = LineGoes (nat_lt 256 (length line)) (has_frame (line_begun p).frame (is_percent line)) c (line_begun p) r line way

-- ---- what of it the list doesn't have

-- all of it is at or over the safe height
pub record IsOverClear (rounds : Bool) (clear : ℤ) (w : Move) : Type 0 where
  pub from_high : IsHigh rounds clear w.from.z
  pub to_high : IsHigh rounds clear w.to.z

-- all of it is straight over a place
pub record IsOver (q : Pt3) (w : Move) : Type 0 where
  pub from_x : w.from.x ≡ q.x
  pub from_y : w.from.y ≡ q.y
  pub from_over : q.z ≤ℤ w.from.z
  pub to_x : w.to.x ≡ q.x
  pub to_y : w.to.y ≡ q.y
  pub to_over : q.z ≤ℤ w.to.z

-- an end of one of these ways
pub record IsOverEnd (ways : List Move) (w : Move) : Type 0 where
  pub way : Move
  pub member : Contains ways way
  pub over : IsOver way.from w ⊎ IsOver way.to w

-- straight up or down from wherever the tip is, to the safe height or over it
pub record IsToClear (rounds : Bool) (clear : ℤ) (w : Move) : Type 0 where
  pub rapid : w.kind ≡ Rapid
  pub same_x : w.to.x ≡ w.from.x
  pub same_y : w.to.y ≡ w.from.y
  pub to_high : IsHigh rounds clear w.to.z

-- a machine's way is one of the list's own, by the text's numbers, or it lies at or over the safe height, or straight over a place of the list, or goes straight to the safe height from wherever the tip is
abbrev pub IsForeseen : Bool → ℤ → List Move → Move → Type 0
IsForeseen rounds clear ways w = Contains ways w ⊎ (IsOverClear rounds clear w ⊎ (IsOverEnd ways w ⊎ IsToClear rounds clear w))

-- so are all ways of a line that is taken, and its tip may be where they end
abbrev pub LineIsForeseen : Type 0
LineIsForeseen = (c : Control) (p : Progress) (at r : Pt3) (line : List ℕ) (done : Progress × List Move) (way : Way) → p.rules.words ≡ Machine c
    → FitsText c p → at ≡ exact_here p → MayBeAt c p at r → MayGo c p r line way → after_line p line ≡ Ok done
    → MayBeAt c done.0 (text_line c p at line).0 way.0 × All (IsForeseen c.rounds p.clear (text_line c p at line).1) way.1
