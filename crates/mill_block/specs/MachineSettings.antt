-- What the settings of a line for a machine change: its mode, its numbers, its offsets, and what is known of the tool's place.
use Rattle.std.specs.Prelude.{ℕ, ℤ, pos, Option, Some, None, unwrap_or, Bool, true, false, not, ◌&&◌, ◌||◌, ◌==◌, if◌then◌else◌}
use Rattle.mill_words.specs.declared.word.Num.{Num}
use Rattle.mill_control.specs.Lengths.{exact, per}
use Rattle.mill_control.specs.Offsets.{first_offsets, none_named, same_length}
use Rattle.mill_control.specs.Places.{nowhere, other_length, other_zero, raised}
use Rattle.mill_control.specs.declared.lengths.LengthUnit.{LengthUnit}
use Rattle.mill_control.specs.declared.lengths.LengthUnit.TheVariants.{Millimetres, Inches}
use Rattle.mill_control.specs.declared.offsets.Offsets.{Offsets}
use Rattle.mill_control.specs.declared.offsets.ToolLength.{ToolLength}
use Rattle.mill_control.specs.declared.offsets.ToolLength.TheVariants.{Cancelled, Unnumbered, Numbered}
use Rattle.mill_control.specs.declared.place.Place.{Place}
use Rattle.mill_control.specs.declared.series.Cycle.{Cycle}
use Rattle.mill_control.specs.declared.series.Return.{Return}
use Rattle.mill_control.specs.declared.series.Series.{Series}
use Rattle.mill_control.specs.declared.turn.Plane.{Plane}
use Rattle.mill_control.specs.declared.turn.Plane.TheVariants.{Xy}
use Rattle.mill_control.specs.declared.turn.Turn.{Turn}
use Rattle.mill_base.specs.declared.unit.Unit.{Unit}
use Rattle.mill_block.specs.declared.machine.Finer.{Finer}
use Rattle.mill_block.specs.declared.machine.Machine.{Machine}
use Rattle.mill_said.specs.declared.machine_said.MachineSaid.{MachineSaid}
use Rattle.mill_said.specs.declared.machine_said.Motion.{Motion}
use Rattle.mill_said.specs.declared.machine_said.Motion.TheVariants.{Goes, Drills, Turns}
use Rattle.mill_said.specs.declared.profile.Mode.{Mode}
use Rattle.mill_said.specs.declared.profile.Mode.TheVariants.{Off, On}
use Rattle.mill_block.specs.declared.progress.Progress.{Progress}
use Rattle.mill_said.specs.declared.rules.Control.{Control}
use Rattle.mill_block.specs.Drives.{driven_by}
use Rattle.mill_said.specs.MachineTakes.{is_at_most}

-- a place of whole units
abbrev pub nothing_finer : Finer
nothing_finer = record { x = pos 0; y = pos 0; z = pos 0 }

-- before the first line
abbrev pub machine_begun : Machine
machine_begun = record { inches = false; incremental = false; cycle = None; turn = None; plane = Xy; wide_path = false; series = None; returns = None; place = nowhere; finer = nothing_finer; offsets = first_offsets; named = none_named; has_named = false; late = false; waiting = 0 }

-- ---- the mode

-- the straight motion in force
abbrev pub mode_behind : Option Motion → Bool → Mode → Mode
mode_behind (Some (Goes kind)) still mode = On kind
mode_behind (Some (Drills c)) still mode = Off
mode_behind (Some (Turns t)) still mode = Off
mode_behind None still mode = if still then Off else mode

-- the drilling cycle in force
abbrev pub cycle_behind : Option Motion → Bool → Option Cycle → Option Cycle
cycle_behind (Some (Goes kind)) still cycle = None
cycle_behind (Some (Drills c)) still cycle = Some c
cycle_behind (Some (Turns t)) still cycle = None
cycle_behind None still cycle = if still then None else cycle

-- the way round of the arcs in force
abbrev pub turn_behind : Option Motion → Bool → Option Turn → Option Turn
turn_behind (Some (Goes kind)) still turn = None
turn_behind (Some (Drills c)) still turn = None
turn_behind (Some (Turns t)) still turn = Some t
turn_behind None still turn = if still then None else turn

-- and their plane
abbrev pub plane_behind : Option Plane → Plane → Plane
plane_behind None before = before
plane_behind (Some new) before = new

-- a series lasts while there is no other motion mode
abbrev pub series_behind : Option Cycle → Option Series → Option Series
series_behind None series = None
series_behind (Some c) series = series

-- ---- numbers

abbrev pub are_inches : LengthUnit → Bool
are_inches Inches = true
are_inches Millimetres = false

-- millimetres are in force behind the line, or inches
abbrev pub millimetres_behind : Option LengthUnit → Bool → Bool
millimetres_behind None before = before
millimetres_behind (Some lengths) before = not (are_inches lengths)

abbrev pub inches_behind : Option LengthUnit → Bool → Bool
inches_behind None before = before
inches_behind (Some lengths) before = are_inches lengths

-- coordinates are incremental behind it
abbrev pub incremental_behind : Option Bool → Bool → Bool
incremental_behind None before = before
incremental_behind (Some absolute) before = not absolute

-- where a hole ends, behind the line
abbrev pub returns_behind : Option Return → Option Return → Option Return
returns_behind None before = before
returns_behind (Some new) before = Some new

-- ---- offsets

abbrev pub length_told : Option Bool → Option Num → ToolLength → ToolLength
length_told None h length = length
length_told (Some false) h length = Cancelled
length_told (Some true) None length = Unnumbered
length_told (Some true) (Some n) length = Numbered (exact n)

-- where all lengths are one none is ever in force
abbrev pub offsets_behind : Bool → MachineSaid → Offsets → Offsets
offsets_behind one_length s o = record { length = if one_length then o.length else length_told s.length s.h o.length; zero = unwrap_or s.zero o.zero }

-- ---- the place

-- it selects or changes the tool
abbrev pub is_of_tool : MachineSaid → Bool
is_of_tool s = s.selects || s.changes

-- another tool may be in the spindle, and a change may leave it high
abbrev pub with_tool : Bool → MachineSaid → Place → Place
with_tool raises s p = if raises && s.changes then raised (other_zero p) else (if is_of_tool s then other_zero p else p)

abbrev pub with_length : ToolLength → ToolLength → Place → Place
with_length old new p = if same_length old new then p else other_length p

abbrev pub with_zero : ℕ → ℕ → Place → Place
with_zero old new p = if old == new then p else other_zero p

abbrev pub with_offsets : Offsets → Offsets → Place → Place
with_offsets old new p = with_zero old.zero new.zero (with_length old.length new.length p)

abbrev pub place_behind : Control → MachineSaid → Machine → Place
place_behind c s m = with_offsets m.offsets (offsets_behind c.one_length s m.offsets) (with_tool c.change_raises s m.place)

-- ---- the path's tolerance

-- the unit of lengths, and inches where there is none yet
abbrev pub lengths_in_force : Bool → LengthUnit
lengths_in_force millimetres = if millimetres then Millimetres else Inches

-- a tolerance of more units than this
abbrev pub is_wide : ℕ → ℤ → Option Num → Bool
is_wide per units None = false
is_wide per units (Some n) = not (is_at_most per units n)

-- the path may be left by more than arcs have room for: G64 says how far, and G61 ends it
abbrev pub wide_behind : ℤ → ℕ → MachineSaid → Bool → Bool
wide_behind room per s before = if s.tolerates then is_wide per room s.p else (if s.exact then false else before)

abbrev pub path_per : Unit → MachineSaid → Bool → ℕ
path_per unit s millimetres = per (lengths_in_force (millimetres_behind s.lengths millimetres)) unit

-- ---- all of it

abbrev pub machine_settled : Control → ℕ → MachineSaid → Machine → Machine
machine_settled c path s m = record m {
  inches = inches_behind s.lengths m.inches;
  incremental = incremental_behind s.absolute m.incremental;
  cycle = cycle_behind s.motion s.still m.cycle;
  turn = turn_behind s.motion s.still m.turn;
  plane = plane_behind s.plane m.plane;
  wide_path = wide_behind c.arc_room path s m.wide_path;
  series = series_behind (cycle_behind s.motion s.still m.cycle) m.series;
  returns = returns_behind s.returns m.returns;
  place = place_behind c s m;
  offsets = offsets_behind c.one_length s m.offsets;
  late = m.late || (is_of_tool s && m.has_named);
}

-- the settings of a line take effect
unfoldable pub settled_for : Control → Progress → MachineSaid → Progress
settled_for c p s = record p {
  mode = mode_behind s.motion s.still p.mode;
  millimetres = millimetres_behind s.lengths p.millimetres;
  absolute = unwrap_or s.absolute p.absolute;
  ended = s.ends;
  drive = if p.rules.needs_spindle then driven_by p.drive s.changes s.spindle s.speed s.rate else p.drive;
  machine = machine_settled c (path_per p.unit s p.millimetres) s p.machine;
}

-- the unit of lengths in force: millimetres until there is one
abbrev pub lengths_of : Progress → LengthUnit
lengths_of p = if p.machine.inches then Inches else Millimetres

-- so many units of the grid is a length of 1
abbrev pub per_of : Progress → ℕ
per_of p = per (lengths_of p) p.unit

abbrev pub has_lengths : Progress → Bool
has_lengths p = p.millimetres || p.machine.inches
