-- What a line of a program for a machine does: its checks in their order, and its moves.
use Rattle.std.specs.Prelude.{ℕ, ℤ, pos, ◌+◌, List, [], length, map, replicate, Option, Some, None, is_some, option_map, Result, Ok, Err, ⊤, Bool, true, false, not, ◌&&◌, ◌||◌, ◌==◌, nat_le, nat_lt, nat_abs, int_le, if◌then◌else◌}
use Rattle.std.specs.List.{list_all}
use Rattle.mill_arc.specs.Chords.{chords_of}
use Rattle.mill_arc.specs.Arcs.{is_sound}
use Rattle.mill_arc.specs.declared.chords.Chord.{Chord}
use Rattle.mill_base.specs.Numbers.{greater}
use Rattle.mill_base.specs.Units.{greatest_of}
use Rattle.mill_base.specs.declared.limits.TheConstants.{MAX_MOVES}
use Rattle.mill_base.specs.declared.motion.Kind.{Kind}
use Rattle.mill_base.specs.declared.motion.Kind.TheVariants.{Rapid, Feed}
use Rattle.mill_base.specs.declared.motion.Move.{Move}
use Rattle.mill_base.specs.declared.points.Pt3.{Pt3}
use Rattle.mill_base.specs.declared.unit.Unit.{Unit}
use Rattle.mill_words.specs.declared.word.Num.{Num}
use Rattle.mill_control.specs.Drilled.{ends_at}
use Rattle.mill_control.specs.Unrounded.{text_units}
use Rattle.mill_control.specs.Holes.{begun, hole_end, hole_moves, may_drill, with_numbers}
use Rattle.mill_control.specs.Lengths.{is_whole, rounded}
use Rattle.mill_control.specs.Offsets.{is_offset, may_name, named}
use Rattle.mill_control.specs.Places.{allows, behind, may_park, parked, raised}
use Rattle.mill_control.specs.declared.hole.Hole.{Hole}
use Rattle.mill_control.specs.declared.place.Naming.{Naming}
use Rattle.mill_control.specs.declared.place.Place.{Place}
use Rattle.mill_control.specs.declared.series.Cycle.{Cycle}
use Rattle.mill_control.specs.declared.series.Return.{Return}
use Rattle.mill_control.specs.declared.series.Return.TheVariants.{Level, Clearance}
use Rattle.mill_control.specs.declared.series.Series.{Series}
use Rattle.mill_control.specs.declared.turn.Plane.{Plane}
use Rattle.mill_control.specs.declared.turn.Plane.TheVariants.{Xy}
use Rattle.mill_control.specs.declared.turn.Turn.{Turn}
use Rattle.mill_said.specs.declared.fault.NgcFault.{NgcFault}
use Rattle.mill_said.specs.declared.fault.NgcFault.TheVariants as fault
use Rattle.mill_block.specs.declared.machine.Machine.{Machine}
use Rattle.mill_block.specs.declared.machine_arc.Sweep.{Sweep}
use Rattle.mill_said.specs.declared.machine_said.MachineSaid.{MachineSaid}
use Rattle.mill_said.specs.declared.machine_said.Up.{Up}
use Rattle.mill_said.specs.declared.profile.Mode.{Mode}
use Rattle.mill_said.specs.declared.profile.Mode.TheVariants.{Off, On}
use Rattle.mill_block.specs.declared.progress.Known.{Known}
use Rattle.mill_block.specs.declared.progress.Known.TheVariants.{All}
use Rattle.mill_block.specs.declared.progress.Progress.{Progress}
use Rattle.mill_said.specs.declared.rules.Control.{Control}
use Rattle.mill_block.specs.Drives.{driven_or_fault}
use Rattle.mill_block.specs.MachineArcs.{chord_end, fed, sweep_of, words_fit}
use Rattle.mill_said.specs.MachineSaid.{is_drills, names_axis, names_centre}
use Rattle.mill_block.specs.MachineSettings.{has_lengths, lengths_of, per_of, settled_for}
use Rattle.mill_block.specs.Motion.{is_rapid, known_of, made_move}
use Rattle.mill_said.specs.Numbers.{is_nought}
use Rattle.mill_said.specs.Said.{◌>>=◌}
use Rattle.mill_block.specs.TextPlaces.{exact_here, exactly_at, text_above, text_or, text_target}

-- what a line does: the progress behind it, and its moves
abbrev pub Done : Type 0
Done = Result (Progress × List Move) NgcFault

-- ---- the first whole place

abbrev pub still_at : Pt3 → Move
still_at at = record { kind = Rapid; from = at; to = at }

-- x and y are known for the first time: all lines that waited, and this one, are moves of length 0 there
abbrev pub arrived : Progress → Pt3 → Done
arrived p to =
    if nat_lt MAX_MOVES (p.moves + (p.machine.waiting + 1)) then Err (fault.TooManyMoves p.line) else
    Ok (record p { here = to; known = All; positioned = true; moves = p.moves + (p.machine.waiting + 1); machine = record p.machine { waiting = 0 } }, replicate (p.machine.waiting + 1) (still_at to))

-- they aren't yet: one line more waits
abbrev pub waits : Progress → Pt3 → Done
waits p to =
    if nat_le MAX_MOVES (p.moves + p.machine.waiting) then Err (fault.TooManyMoves p.line) else
    Ok (record p { here = to; positioned = true; machine = record p.machine { waiting = p.machine.waiting + 1 } }, [])

-- a straight way to this point, on a line that names x and y or doesn't
abbrev pub gone_to : Known → Progress → Kind → Bool → Pt3 → Done
gone_to All p kind across to = made_move p kind to
gone_to known p kind across to = if across then arrived p to else waits p to

-- ---- up to the machine's place, and across to it

-- no word of a cycle beside it
abbrev pub has_cycle_word : MachineSaid → Bool
has_cycle_word s = ((is_drills s.motion || is_some s.r) || is_some s.q) || is_some s.p

-- G53 by a rapid; G28 and G30 by no increment; none of them beside a cycle's words or an arc's
abbrev pub up_fits : Progress → MachineSaid → Up → Bool
up_fits p s u =
    not (has_cycle_word s || names_centre s) &&
    (if u.by_machine then is_rapid p.mode else p.machine.incremental && ((is_nought s.x && is_nought s.y) && is_nought s.z))

abbrev pub is_safe : Progress → Bool
is_safe p = int_le p.clear p.here.z

abbrev pub parks : MachineSaid → Bool
parks s = is_some s.x || is_some s.y

abbrev pub with_place : (Machine → Machine) → Progress × List Move → Progress × List Move
with_place f done = (record done.0 { machine = f done.0.machine }, done.1)

abbrev pub above_of : Progress → Pt3
above_of p = record { x = p.here.x; y = p.here.y; z = greater p.here.z p.clear }

-- the tool is at this place by the text's own numbers
abbrev pub exactly : Pt3 → Progress × List Move → Progress × List Move
exactly t done = (exactly_at t done.0, done.1)

abbrev pub rise : Progress → Done
rise p = gone_to (known_of p) p Rapid false (above_of p) >>= λ done.
    Ok (exactly (text_above p (exact_here p)) (with_place (λ m. record m { place = raised m.place }) done))

-- across to the machine's place is no move of the list
abbrev pub park : Progress → MachineSaid → Done
park p s = Ok (record p { positioned = true; machine = record p.machine { place = parked p.machine.place (is_some s.z) } }, [])

unfoldable pub gone_up : Progress → MachineSaid → Up → Done
gone_up p s u =
    if not (up_fits p s u) then Err (fault.NotInProfile p.line 71 u.num) else
    (if parks s && not (may_park p.machine.place.height (is_safe p)) then Err (fault.Start p.line) else
    (if not (has_lengths p) then Err (fault.NoUnits p.line) else
    (if u.by_machine && not p.absolute then Err (fault.NoAbsolute p.line) else
    (if parks s then park p s else rise p))))

-- ---- a line that names coordinates

-- what is known of the place: before the first whole place x and y aren't
abbrev pub place_in : Known → Place → Place
place_in All p = p
place_in known p = record p { across = false }

abbrev pub place_of : Progress → Place
place_of p = place_in (known_of p) p.machine.place

abbrev pub naming_of : Progress → MachineSaid → Naming
naming_of p s = record { rapid = is_rapid p.mode; needs_place = is_some p.machine.cycle || is_some p.machine.turn; x = is_some s.x; y = is_some s.y; z = option_map (λ n. int_le p.clear (rounded (per_of p) n)) s.z }

-- Z, or a cycle's R
abbrev pub names_height : Option Cycle → MachineSaid → Bool
names_height cycle s = is_some s.z || (is_some cycle && is_some s.r)

abbrev pub is_up : Option Bool → Bool
is_up None = false
is_up (Some over) = over

-- a rapid straight up to the safe height, under no tool length, may stand before a tool is selected
abbrev pub is_before_tool : Progress → Naming → Bool
is_before_tool p n = ((n.rapid && not (is_offset p.machine.offsets.length)) && not (n.x || n.y)) && is_up n.z

-- what is known and named behind it
abbrev pub machine_behind : Progress → MachineSaid → Machine → Machine
machine_behind p s m = record m {
  place = behind (place_of p) (naming_of p s);
  named = named m.named m.offsets (names_height p.machine.cycle s) (parks s);
  has_named = m.has_named || not (is_before_tool p (naming_of p s));
}

-- a control takes this number: any, where it rounds, and else a whole number of units
abbrev pub is_taken : Bool → ℕ → Num → Bool
is_taken rounds per n = rounds || is_whole per n

-- a number in units: rounded, or a fault where nothing is rounded
abbrev pub units_for : Control → Progress → Num → Result ℤ NgcFault
units_for c p n =
    if not (is_taken c.rounds (per_of p) n) then Err (fault.OffGrid p.line) else
    (if nat_lt (greatest_of p.unit) (nat_abs (rounded (per_of p) n)) then Err (fault.OutOfRange p.line) else Ok (rounded (per_of p) n))

abbrev pub coordinate_for : Control → Progress → ℤ → Option Num → Result ℤ NgcFault
coordinate_for c p here None = Ok here
coordinate_for c p here (Some n) = units_for c p n

unfoldable pub target_for : Control → Progress → MachineSaid → Result Pt3 NgcFault
target_for c p s =
    coordinate_for c p p.here.x s.x >>= λ x.
    coordinate_for c p p.here.y s.y >>= λ y.
    coordinate_for c p p.here.z s.z >>= λ z.
    Ok (record { x = x; y = y; z = z })

-- ---- a straight way

abbrev pub went : Control → Progress → MachineSaid → Kind → Done
went c p s kind = target_for c p s >>= λ to. gone_to (known_of p) p kind (parks s) to

-- ---- a hole

abbrev pub hole_z : ℤ → Return → ℤ → ℤ
hole_z level Level top = greater top level
hole_z level Clearance top = top

-- the series with the numbers of the line
abbrev pub series_for : Progress → MachineSaid → Cycle → Series
series_for p s cycle = with_numbers (begun p.machine.series cycle p.here.z) s.r s.z s.q

abbrev pub rounded_or : Progress → ℤ → Option Num → ℤ
rounded_or p here None = here
rounded_or p here (Some n) = rounded (per_of p) n

-- no other numbers than these are asked for where a hole may be drilled
abbrev pub number_or : Option Num → Num
number_or None = record { neg = false; mant = 0; scale = 0 }
number_or (Some n) = n

abbrev pub returns_or : Option Return → Return
returns_or None = Clearance
returns_or (Some r) = r

abbrev pub peck_fits : Control → Progress → Option Num → Result ⊤ NgcFault
peck_fits c p None = Ok tt
peck_fits c p (Some n) = if not (is_taken c.rounds (per_of p) n) then Err (fault.OffGrid p.line) else Ok tt

abbrev pub hole_of : Control → Progress → Series → ℤ → ℤ → ℤ → Hole
hole_of c p v x y top = record { from = p.here; x = x; y = y; cycle = v.cycle; r = number_or v.r; z = number_or v.z; q = v.q; unit = p.unit; lengths = lengths_of p; peck_clearance = pos c.peck_clearance; end = hole_z v.level (returns_or p.machine.returns) top }

-- its moves, unless they are too many
abbrev pub drilled : Progress → Series → Hole → Done
drilled p v h =
    if nat_lt MAX_MOVES (p.moves + length (hole_moves h)) then Err (fault.TooManyMoves p.line) else
    Ok (record p { here = hole_end h; positioned = true; moves = p.moves + length (hole_moves h); machine = record p.machine { series = Some v } }, hole_moves h)

unfoldable pub hole_for : Control → Progress → MachineSaid → Series → Result Hole NgcFault
hole_for c p s v =
    coordinate_for c p p.here.x s.x >>= λ x.
    coordinate_for c p p.here.y s.y >>= λ y.
    coordinate_for c p p.here.z v.z >>= λ z.
    coordinate_for c p p.here.z v.r >>= λ top.
    peck_fits c p s.q >>= λ _.
    Ok (hole_of c p v x y top)

abbrev pub is_level : Plane → Bool
is_level Xy = true
is_level plane = false

-- every control makes the same moves of the line's hole
abbrev pub is_drillable : Progress → MachineSaid → Series → Bool
is_drillable p s v = is_level p.machine.plane && may_drill v p.machine.returns (per_of p) p.here (rounded_or p p.here.x s.x) (rounded_or p p.here.y s.y)

unfoldable pub drills_hole : Control → Progress → MachineSaid → Cycle → Done
drills_hole c p s cycle =
    if not (is_drillable p s (series_for p s cycle)) then Err (fault.Cycle p.line) else
    (hole_for c p s (series_for p s cycle) >>= λ h. drilled p (series_for p s cycle) h)

-- back to where the series began, which is where the tool is, or to R where that is higher; by the text's own numbers
abbrev pub text_end : Return → ℤ → ℤ → ℤ
text_end Level top z = greater top z
text_end Clearance top z = top

abbrev pub text_over_hole : Progress → Pt3 → MachineSaid → Series → Pt3
text_over_hole p at s v = record { x = text_or (per_of p) at.x s.x; y = text_or (per_of p) at.y s.y; z = text_end (returns_or p.machine.returns) (text_units (per_of p) (number_or v.r)) at.z }

-- ---- an arc

abbrev pub is_coordinate : Unit → ℤ → Bool
is_coordinate unit x = nat_le (nat_abs x) (greatest_of unit)

abbrev pub is_in_range : Unit → Pt3 → Bool
is_in_range unit q = is_coordinate unit q.x && (is_coordinate unit q.y && is_coordinate unit q.z)

abbrev pub points_or : Progress → List Pt3 → Result (List Pt3) NgcFault
points_or p points = if list_all (is_in_range p.unit) points then Ok points else Err (fault.OutOfRange p.line)

abbrev pub chords_or : Progress → Sweep → Option (List Chord) → Result (List Pt3) NgcFault
chords_or p w None = Err (fault.Arc p.line)
chords_or p w (Some chords) = points_or p (map (chord_end p.machine.plane w) chords)

-- where the chords of its turn end
unfoldable pub points_of : Progress → Sweep → Result (List Pt3) NgcFault
points_of p w = if not (is_sound w.arc) then Err (fault.Arc p.line) else chords_or p w (chords_of w.arc)

-- its moves, unless they are too many
abbrev pub went_round : Progress → List Pt3 → Done
went_round p points =
    if nat_lt MAX_MOVES (p.moves + length points) then Err (fault.TooManyMoves p.line) else
    Ok (record p { here = ends_at p.here (fed p.here points); positioned = true; moves = p.moves + length points }, fed p.here points)

unfoldable pub turned : Control → Progress → MachineSaid → Turn → Done
turned c p s turn =
    if int_le (pos 0) c.arc_room && p.machine.wide_path then Err (fault.PathControl p.line) else
    (if not (words_fit c p s) then Err (fault.Arc p.line) else
    (target_for c p s >>= λ to. points_of p (sweep_of c p s turn) >>= λ points. went_round p points))

-- ---- the checks in their order

-- where the line leads by its own numbers
abbrev pub exact_to : Progress → MachineSaid → Option Cycle → Pt3
exact_to p s None = text_target p (exact_here p) s
exact_to p s (Some cycle) = text_over_hole p (exact_here p) s (series_for p s cycle)

-- a cycle's line counts as a feed, and an arc's
abbrev pub acts_by : Control → Progress → MachineSaid → Mode → Option Cycle → Option Turn → Done
acts_by c p s mode (Some cycle) turn = driven_or_fault p.rules.needs_spindle Feed p.drive p.line >>= λ _. drills_hole c p s cycle
acts_by c p s mode None (Some turn) = driven_or_fault p.rules.needs_spindle Feed p.drive p.line >>= λ _. turned c p s turn
acts_by c p s Off None None = Err (fault.NoMotion p.line)
acts_by c p s (On kind) None None = driven_or_fault p.rules.needs_spindle kind p.drive p.line >>= λ _. went c p s kind

unfoldable pub names_by : Control → Progress → MachineSaid → Done
names_by c p s =
    if p.machine.late then Err (fault.LateTool p.line) else
    (if not (allows (place_of p) (naming_of p s)) then Err (fault.Start p.line) else
    (if not (may_name p.machine.named p.machine.offsets (names_height p.machine.cycle s) (parks s)) then Err (fault.LateOffset p.line) else
    (if not (has_lengths p) then Err (fault.NoUnits p.line) else
    (if not p.absolute then Err (fault.NoAbsolute p.line) else
    (acts_by c p s p.mode p.machine.cycle p.machine.turn >>= λ done. Ok (exactly (exact_to p s p.machine.cycle) (with_place (machine_behind p s) done)))))))

-- without an axis word there is no way up, and no word of a cycle but a rest's or a tolerance's P
abbrev pub is_idle : MachineSaid → Bool
is_idle s = not ((is_drills s.motion || is_some s.r) || (is_some s.q || (is_some s.p && not (s.rests || s.tolerates))))

abbrev pub idles : Progress → MachineSaid → Done
idles p s = if is_idle s then Ok (p, []) else Err (fault.Cycle p.line)

abbrev pub stands : Progress → MachineSaid → Option Up → Done
stands p s None = idles p s
stands p s (Some u) = if u.by_machine then idles p s else Err (fault.NotInProfile p.line 71 u.num)

abbrev pub axis_done : Control → Progress → MachineSaid → Option Up → Done
axis_done c p s None = names_by c p s
axis_done c p s (Some u) = gone_up p s u

-- the line names an axis, or is an arc's
abbrev pub acts : Progress → MachineSaid → Bool
acts p s = names_axis s || (is_some p.machine.turn && (names_centre s || is_some s.r))

abbrev pub machine_done : Control → Progress → MachineSaid → Done
machine_done c p s = if acts p s then axis_done c p s s.up else stands p s s.up

-- M0 and M1 stop the spindle behind their line
abbrev pub with_stop : Bool → Progress × List Move → Progress × List Move
with_stop stops done = if stops then (record done.0 { drive = record done.0.drive { turns = false } }, done.1) else done

-- what a line does that says this
unfoldable pub machine_acted : Control → Progress → MachineSaid → Done
machine_acted c p s = machine_done c (settled_for c p s) s >>= λ done. Ok (with_stop s.stops done)
