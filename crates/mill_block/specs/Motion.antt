-- What a line does that says this: its settings, and its moves.
use Rattle.std.specs.Prelude.{ℕ, ◌+◌, ℤ, List, [], ◌∷◌, Option, Some, None, unwrap_or, is_some, Result, Ok, Err, Bool, true, false, not, ◌&&◌, ◌||◌, nat_le, nat_lt, if◌then◌else◌}
use Rattle.mill_base.specs.declared.limits.TheConstants.{MAX_MOVES}
use Rattle.mill_base.specs.declared.points.Pt3.{Pt3}
use Rattle.mill_base.specs.declared.motion.Kind.{Kind}
use Rattle.mill_base.specs.declared.motion.Kind.TheVariants.{Rapid}
use Rattle.mill_base.specs.declared.motion.Move.{Move}
use Rattle.mill_base.specs.declared.unit.Unit.{Unit}
use Rattle.mill_words.specs.declared.word.Num.{Num}
use Rattle.mill_said.specs.declared.fault.NgcFault.{NgcFault}
use Rattle.mill_said.specs.declared.fault.NgcFault.TheVariants as fault
use Rattle.mill_said.specs.declared.profile.Mode.{Mode}
use Rattle.mill_said.specs.declared.profile.Mode.TheVariants.{Off, On}
use Rattle.mill_said.specs.declared.said.Said.{Said}
use Rattle.mill_block.specs.declared.progress.Known.{Known}
use Rattle.mill_block.specs.declared.progress.Known.TheVariants.{Nothing, Height, All}
use Rattle.mill_block.specs.declared.progress.Progress.{Progress}
use Rattle.mill_block.specs.Drives.{driven, driven_or_fault}
use Rattle.mill_said.specs.Numbers.{axis_units, is_at_or_over}
use Rattle.mill_said.specs.Said.{◌>>=◌, has_axis, has_motion}

-- the settings of a line take effect
abbrev pub settled : Progress → Said → Progress
settled p s = record p {
  mode = unwrap_or s.mode p.mode;
  millimetres = p.millimetres || s.millimetres;
  absolute = p.absolute || s.absolute;
  ended = s.ends;
  drive = if p.rules.needs_spindle then driven p.drive s else p.drive;
}

-- ---- the way to the first place

-- what is known of the tool's place: all of it, unless it may be anywhere before the program
abbrev pub known_of : Progress → Known
known_of p = if p.rules.from_anywhere then p.known else All

abbrev pub is_rapid : Mode → Bool
is_rapid (On Rapid) = true
is_rapid mode = false

-- the axis is named, with a number of millimetres at or over this height in units
abbrev pub reaches : Unit → ℤ → Option Num → Bool
reaches unit height None = false
reaches unit height (Some n) = is_at_or_over unit height n

-- a line with axis words may come where this is known: first straight up, then across
abbrev pub may_come : Known → Progress → Said → Bool
may_come Nothing p s = (is_rapid p.mode && reaches p.unit p.here.z s.z) && not (is_some s.x || is_some s.y)
may_come Height p s = (is_rapid p.mode && (is_some s.x && is_some s.y)) && not (is_some s.z)
may_come All p s = true

-- ---- the moves

-- a coordinate of a move's end: the number of its axis, or that of the present point
abbrev pub coordinate : Unit → ℕ → ℤ → Option Num → Result ℤ NgcFault
coordinate unit line here None = Ok here
coordinate unit line here (Some n) = axis_units unit line n

-- where a line's move ends; x is checked before y, and y before z
unfoldable pub target : Progress → Said → Result Pt3 NgcFault
target p s =
    coordinate p.unit p.line p.here.x s.x >>= λ x.
    coordinate p.unit p.line p.here.y s.y >>= λ y.
    coordinate p.unit p.line p.here.z s.z >>= λ z.
    Ok (record { x = x; y = y; z = z })

-- a move to this point, unless there are 1,000,000 already
abbrev pub made_move : Progress → Kind → Pt3 → Result (Progress × List Move) NgcFault
made_move p kind to =
    if nat_le MAX_MOVES p.moves then Err (fault.TooManyMoves p.line) else
    Ok (record p { here = to; positioned = true; moves = p.moves + 1 }, record { kind = kind; from = p.here; to = to } ∷ [])

-- the place is known behind the way across: the moves begin there, with one of length 0 for each of the two lines
abbrev pub began : Progress → Pt3 → Result (Progress × List Move) NgcFault
began p to =
    if nat_lt MAX_MOVES (p.moves + 2) then Err (fault.TooManyMoves p.line) else
    Ok (record p { here = to; known = All; positioned = true; moves = p.moves + 2 }, record { kind = Rapid; from = to; to = to } ∷ record { kind = Rapid; from = to; to = to } ∷ [])

-- its height is known behind the way up
abbrev pub risen : Progress → Pt3 → Progress
risen p to = record p { here = to; known = Height; positioned = true }

-- the tool goes to this point
abbrev pub gone : Known → Progress → Kind → Pt3 → Result (Progress × List Move) NgcFault
gone Nothing p kind to = Ok (risen p to, [])
gone Height p kind to = began p to
gone All p kind to = made_move p kind to

abbrev pub moved_by : Mode → Progress → Said → Result (Progress × List Move) NgcFault
moved_by Off p s = Err (fault.NoMotion p.line)
moved_by (On kind) p s =
    driven_or_fault p.rules.needs_spindle kind p.drive p.line >>= λ _.
    target p s >>= λ to.
    gone (known_of p) p kind to

-- what a line with an axis word does behind its settings
unfoldable pub moved : Progress → Said → Result (Progress × List Move) NgcFault
moved p s =
    if not (may_come (known_of p) p s) then Err (fault.Start p.line) else
    (if not p.millimetres then Err (fault.NoUnits p.line) else
    (if not p.absolute then Err (fault.NoAbsolute p.line) else moved_by p.mode p s))

-- what a line does: the progress behind it, and the moves that it makes
unfoldable pub acted : Progress → Said → Result (Progress × List Move) NgcFault
acted p s =
    if has_axis s then moved (settled p s) s else
    (if has_motion s.mode then Err (fault.NoAxis p.line) else Ok (settled p s, []))
