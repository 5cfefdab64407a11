-- An arc that a line for a machine makes: what its words have to show, its geometry in nanometres, and its moves along chords.
use Rattle.std.specs.Prelude.{ℕ, ℤ, pos, ◌+ℤ◌, ◌-ℤ◌, ◌*◌, ◌^◌, List, [], ◌∷◌, Option, Some, None, is_some, Bool, true, false, not, ◌&&◌, ◌||◌, int_le, int_lt, nat_le, neg_ℤ, map}
use Rattle.mill_base.specs.Units.{greatest_of}
use Rattle.mill_base.specs.declared.motion.Kind.TheVariants.{Feed}
use Rattle.mill_base.specs.declared.motion.Move.{Move}
use Rattle.mill_base.specs.declared.points.Pt3.{Pt3}
use Rattle.mill_base.specs.declared.unit.Unit.{Unit}
use Rattle.mill_words.specs.declared.word.Num.{Num}
use Rattle.mill_control.specs.Unrounded.{is_nano, nano_of, text_units}
use Rattle.mill_control.specs.Planes.{first_of, second_of, third_of, x_of, y_of, z_of}
use Rattle.mill_control.specs.declared.turn.Plane.{Plane}
use Rattle.mill_control.specs.declared.turn.Turn.{Turn}
use Rattle.mill_control.specs.declared.turn.Turn.TheVariants.{Clockwise, Counterclockwise}
use Rattle.mill_arc.specs.Places.{height_of, place_of}
use Rattle.mill_arc.specs.declared.arc.Arc.{Arc}
use Rattle.mill_arc.specs.declared.arc.TheConstants.{MAX_TOLERANCE}
use Rattle.mill_arc.specs.Vectors.{plus}
use Rattle.mill_arc.specs.declared.vectors.Vector.{Vector}
use Rattle.mill_arc.specs.declared.chords.Chord.{Chord}
use Rattle.mill_block.specs.MachineSettings.{per_of}
use Rattle.mill_block.specs.declared.machine.Finer.{Finer}
use Rattle.mill_said.specs.MachineTakes.{is_at_most}
use Rattle.mill_said.specs.Numbers.{is_nought}
use Rattle.mill_block.specs.TextPlaces.{exact_here, text_target}
use Rattle.mill_block.specs.declared.machine_arc.Sweep.{Sweep}
use Rattle.mill_said.specs.declared.machine_said.MachineSaid.{MachineSaid}
use Rattle.mill_block.specs.declared.progress.Progress.{Progress}
use Rattle.mill_said.specs.declared.rules.Control.{Control}

-- ---- what its words have to show

-- where its centre is from its start, along the axes of its plane
abbrev pub first_offset : Progress → MachineSaid → Option Num
first_offset p s = first_of p.machine.plane s.i s.j s.k

abbrev pub second_offset : Progress → MachineSaid → Option Num
second_offset p s = second_of p.machine.plane s.i s.j s.k

abbrev pub third_offset : Progress → MachineSaid → Option Num
third_offset p s = third_of p.machine.plane s.i s.j s.k

-- no greater than a coordinate, and a whole number of nanometres
abbrev pub offset_fits : Progress → Option Num → Bool
offset_fits p None = true
offset_fits p (Some n) = is_at_most (per_of p) (pos (greatest_of p.unit)) n && is_nano p.unit (text_units (per_of p) n)

-- its centre is named along its plane, and in no other way
abbrev pub names_one_centre : Progress → MachineSaid → Bool
names_one_centre p s = not (is_some s.r) && (is_nought (third_offset p s) && (is_some (first_offset p s) || is_some (second_offset p s)))

abbrev pub centre_fits : Progress → MachineSaid → Bool
centre_fits p s = offset_fits p (first_offset p s) && offset_fits p (second_offset p s)

abbrev pub is_nano_place : Unit → Pt3 → Bool
is_nano_place unit q = is_nano unit q.x && (is_nano unit q.y && is_nano unit q.z)

-- half a unit
abbrev pub half : ℤ
half = pos (5 * 10 ^ 17)

-- these units are the number that has this beside them, rounded: from the midst between two units away from zero, as the ends of chords are
unfoldable pub is_rounded : ℤ → ℤ → Bool
is_rounded units finer = (int_lt finer half || int_lt units (pos 0)) && (int_lt (neg_ℤ half) finer || int_lt (pos 0) units)

abbrev pub is_rounded_place : Pt3 → Finer → Bool
is_rounded_place at f = is_rounded at.x f.x && (is_rounded at.y f.y && is_rounded at.z f.z)

abbrev pub are_nano : Progress → MachineSaid → Bool
are_nano p s = is_nano_place p.unit (exact_here p) && is_nano_place p.unit (text_target p (exact_here p) s)

-- start and end are whole nanometres, and where a line names no coordinate, the arc ends at that of the list
abbrev pub ends_fit : Progress → MachineSaid → Bool
ends_fit p s = are_nano p s && is_rounded_place p.here p.machine.finer

-- numbers are rounded, as the ends of chords are, and there is room for arcs, by a tolerance that arcs have
abbrev pub holds_arcs : Control → Bool
holds_arcs c = (c.rounds && int_le (pos 0) c.arc_room) && (nat_le 1 c.arc_tolerance && nat_le c.arc_tolerance MAX_TOLERANCE)

abbrev pub words_fit : Control → Progress → MachineSaid → Bool
words_fit c p s = (holds_arcs c && names_one_centre p s) && (centre_fits p s && ends_fit p s)

-- ---- its geometry, in nanometres

abbrev pub nano_place : Unit → Pt3 → Pt3
nano_place unit q = record { x = nano_of unit q.x; y = nano_of unit q.y; z = nano_of unit q.z }

abbrev pub nano_offset : Progress → Option Num → ℤ
nano_offset p None = pos 0
nano_offset p (Some n) = nano_of p.unit (text_units (per_of p) n)

-- a place by the axes of a plane
abbrev pub in_plane : Plane → Pt3 → Vector
in_plane plane q = record { first = first_of plane q.x q.y q.z; second = second_of plane q.x q.y q.z }

-- back from them
abbrev pub out_of : Plane → Vector → ℤ → Pt3
out_of plane v third = record { x = x_of plane v.first v.second third; y = y_of plane v.first v.second third; z = z_of plane v.first v.second third }

abbrev pub along : Plane → Pt3 → ℤ
along plane q = third_of plane q.x q.y q.z

abbrev pub minus : Vector → Vector → Vector
minus u v = record { first = u.first -ℤ v.first; second = u.second -ℤ v.second }

abbrev pub is_counterclockwise : Turn → Bool
is_counterclockwise Clockwise = false
is_counterclockwise Counterclockwise = true

-- from its start to its end around the centre that lies so far from its start
abbrev pub sweep_between : Control → Unit → Plane → Turn → Pt3 → Pt3 → Vector → Sweep
sweep_between c unit plane turn from to offset = record {
  arc = record {
    start = minus (in_plane plane from) (plus (in_plane plane from) offset);
    «end» = minus (in_plane plane to) (plus (in_plane plane from) offset);
    counterclockwise = is_counterclockwise turn;
    unit = unit;
    tolerance = c.arc_tolerance;
  };
  centre = plus (in_plane plane from) offset;
  from = along plane from;
  to = along plane to;
}

abbrev pub offset_of : Progress → MachineSaid → Vector
offset_of p s = record { first = nano_offset p (first_offset p s); second = nano_offset p (second_offset p s) }

abbrev pub sweep_of : Control → Progress → MachineSaid → Turn → Sweep
sweep_of c p s turn = sweep_between c p.unit p.machine.plane turn (nano_place p.unit (exact_here p)) (nano_place p.unit (text_target p (exact_here p) s)) (offset_of p s)

-- ---- its moves

abbrev pub place_in : Unit → Vector → Vector → Vector
place_in unit centre node = record { first = place_of unit centre.first node.first; second = place_of unit centre.second node.second }

-- the end of a chord, in units
abbrev pub chord_end : Plane → Sweep → Chord → Pt3
chord_end plane w chord = out_of plane (place_in w.arc.unit w.centre chord.node) (height_of w.arc.unit w.from w.to chord.part chord.depth)

-- feeds from place to place
abbrev pub fed : Pt3 → List Pt3 → List Move
fed p [] = []
fed p (q ∷ places) = record { kind = Feed; from = p; to = q } ∷ fed q places
